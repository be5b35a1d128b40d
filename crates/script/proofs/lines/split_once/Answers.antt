use Rattle.std.proofs.Common.{rules, ◌≡◌, Some, None, ◌==◌, position, sym, tests, ◌∙◌}
use Rattle.std.proofs.lemmas.Iterator.{YieldsList-from_slice}
use Rattle.std.proofs.lemmas.Iterator.Search.{position_from_yields_List}
use Rattle.script.proofs.Splits.{split_at}
use Rattle.script.proofs.lines.split_once.Goals as goal

pub returns-in_err-i : goal.returns-in_err-i
returns-in_err-i c =
    let none : c.position.result ≡ position (λ b. b == c.args.mark) c.args.text.now = position_from_yields_List _ _ _ _ c.position.ensures.ran (YieldsList-from_slice c.args.text.now cc) (λ x b q k. search (rules, tests)) in
    record { value = rw c.from_residual.ensures (split_at c.args.mark c.args.text.now None (sym c.in_err-i.was ∙ none)) }

pub returns : goal.returns
returns c =
    let some : c.position.result ≡ position (λ b. b == c.args.mark) c.args.text.now = position_from_yields_List _ _ _ _ c.position.ensures.ran (YieldsList-from_slice c.args.text.now cc) (λ x b q k. search (rules, tests)) in
    let parts_are = split_at c.args.mark c.args.text.now (Some c.in_ok-i.i) (sym c.in_ok-i.was ∙ some) in
    record { value = search (rules, parts_are) }
