-- Any number of host turns. Assumes nothing.
--   HostTurns   holds of two views of a stream with only host turns between them
pub data HostTurns {V : Type 0} (turned : V → V → Type 0) : V → V → Type 0 where
  none : {s : V} → HostTurns turned s s
  more : {s t u : V} → HostTurns turned s t → turned t u → HostTurns turned s u
