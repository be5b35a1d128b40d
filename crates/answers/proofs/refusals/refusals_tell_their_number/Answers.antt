use Rattle.std.proofs.Common.{◌≡◌, ℕ, List, [], ◌++◌, codes, decimal, refl, sym, ap, append-nil}
use Rattle.std.specs.Fmt.{digits}
use Rattle.writer.specs.declared.answer.Fault.TheVariants.{WriteZero, Device}
use Rattle.stream.specs.declared.error.StreamError.TheVariants.{LastOperationFailed, Closed, Trap}
use Rattle.stream.specs.Refusals.{number}
use Rattle.answers.specs.Printing.{NothingOrBlank, RefusalsTellTheirNumber}
use Rattle.answers.proofs.refusals.refusals_tell_their_number.Goals as goal

by_number : (n : ℕ) → (more : List ℕ) × NothingOrBlank more × (codes "e " ++ decimal n ≡ codes "e " ++ decimal n ++ more)
by_number n = ([], tt, ap (λ text. codes "e " ++ text) (sym (append-nil (decimal n))))

refusals_tell : RefusalsTellTheirNumber
unfolding digits
refusals_tell (LastOperationFailed WriteZero) = (codes " zero", refl, refl)
refusals_tell (LastOperationFailed (Device code)) = (codes " d " ++ decimal code, refl, refl)
refusals_tell Closed = by_number (number Closed)
refusals_tell (Trap e) = by_number (number (Trap e))

pub returns : goal.returns
returns c = refusals_tell
