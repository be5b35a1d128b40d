-- The rules that bind every output stream, over its view. Assumes nothing.
--   FaultOfTurn   some turn between two views met this fault, which is not told yet: the stream was open before that turn and faulted after it
--   Honoured      a write under a permit is accepted, or answers the fault of such a turn
--   PermitRule    a permit holds over any host turns
--   FlushRule     while a flush is in progress nothing is permitted and no write is accepted
--   ClosingRule   a fault is told once and leaves the stream closed, and closed stays closed
--   KeepingRule   check_write changes nothing of an open stream, and a trap changes nothing
use Rattle.std.specs.Prelude.{◌≡◌, ℕ, ◌<◌, ◌≤◌, Bool, true, false, ◌⊎◌, List, length, is_ok, Ok, Err, Result}
use Rattle.writer.specs.declared.answer.Fault.{Fault}
use Rattle.stream.specs.declared.error.Trap.{Trap as Trapped}
use Rattle.stream.specs.declared.error.StreamError.{StreamError}
use Rattle.stream.specs.declared.error.StreamError.TheVariants.{LastOperationFailed, Closed, Trap}
use Rattle.stream.specs.Meaning.{Meaning, faulted, closed, open_with, permit}
use Rattle.stream.specs.HostTurns.{HostTurns}

module _ {V : Type 0} (meaning : V → Meaning) (turned : V → V → Type 0) where
  pub record FaultOfTurn (s t : V) (f : Fault) : Type 0 where
    pub before : V
    pub after : V
    pub permitted : ℕ
    pub earlier : HostTurns turned s before
    pub was_open : meaning before ≡ open_with permitted
    pub turn : turned before after
    pub then_faulted : meaning after ≡ faulted f
    pub later : HostTurns turned after t
    pub untold : meaning t ≡ faulted f

  abbrev pub Honoured : V → V → Result (Unit {0}) StreamError → Type 0
  Honoured s t (Ok x) = Unit {0}
  Honoured s t (Err (LastOperationFailed f)) = FaultOfTurn s t f
  Honoured s t (Err Closed) = ⊥
  Honoured s t (Err (Trap e)) = ⊥

  abbrev pub PermitRule : (V → V) → (V → List ℕ → Result (Unit {0}) StreamError) → Type 0
  PermitRule checked accepts =
      (s t : V) (n : ℕ) (bytes : List ℕ) → permit (meaning s) ≡ Ok n → 0 < n → length bytes ≤ n → HostTurns turned (checked s) t → Honoured (checked s) t (accepts t bytes)

module _ {V : Type 0} (meaning : V → Meaning) (accepts : V → List ℕ → Result (Unit {0}) StreamError) where
  pub record FlushRule (flushed : V → V) (flushing : V → Bool) : Type 0 where
    -- an accepted flush is in progress, or had nothing to do
    pub begins : (s : V) (n : ℕ) → meaning s ≡ open_with n → (flushing (flushed s) ≡ true) ⊎ (flushed s ≡ s)
    pub no_permit : (s : V) → flushing s ≡ true → meaning s ≡ open_with 0
    pub no_write : (s : V) (bytes : List ℕ) → flushing s ≡ true → is_ok (accepts s bytes) ≡ false

  pub record LeavesClosed (checked : V → V) (wrote : V → List ℕ → V) (flushed : V → V) (s : V) : Type 0 where
    pub by_check : meaning (checked s) ≡ closed
    pub by_write : (bytes : List ℕ) → meaning (wrote s bytes) ≡ closed
    pub by_flush : meaning (flushed s) ≡ closed

  pub record ClosingRule (turned : V → V → Type 0) (checked : V → V) (wrote : V → List ℕ → V) (flushed : V → V) : Type 0 where
    pub tells : (s : V) (f : Fault) (bytes : List ℕ) → meaning s ≡ faulted f → accepts s bytes ≡ Err (LastOperationFailed f)
    pub closes : (s : V) (f : Fault) → meaning s ≡ faulted f → LeavesClosed checked wrote flushed s
    pub refuses : (s : V) (bytes : List ℕ) → meaning s ≡ closed → accepts s bytes ≡ Err Closed
    pub stays : (s : V) → meaning s ≡ closed → LeavesClosed checked wrote flushed s
    pub turns : (s t : V) → meaning s ≡ closed → turned s t → meaning t ≡ closed

  pub record KeepingRule (checked : V → V) (wrote : V → List ℕ → V) : Type 0 where
    pub checks : (s : V) (n : ℕ) → meaning s ≡ open_with n → checked s ≡ s
    pub traps : (s : V) (bytes : List ℕ) (e : Trapped) → accepts s bytes ≡ Err (Trap e) → wrote s bytes ≡ s
