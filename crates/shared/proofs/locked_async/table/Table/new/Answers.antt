use Rattle.std.proofs.Common.{◌≡◌, false, replicate, take, ap, ◌∙◌, arith}
use Rattle.std.proofs.lemmas.List.{take-replicate}
use Rattle.handles.specs.declared.handle.HandleState.TheVariants.{Ready}
use Rattle.promises.specs.SharedView.{HandleView}
use Rattle.shared.proofs.locked_async.table.Table.new.Goals as goal

pub returns : goal.returns
returns c =
    let just_made : ◌≡◌ {A = HandleView} c.default.result (record { state = Ready; mark = false }) = λ i. record { state = c.default.ensures.0 i; mark = c.default.ensures.1 i } in
    c.truncate.ensures.items
    ∙ ap (take c.handles.result) c.from-handles.ensures.0
    ∙ take-replicate c.handles.result 16 c.default.result (omega (arith, c.handles.ensures, c.args.limits.few))
    ∙ ap (λ n. replicate n c.default.result) c.handles.ensures
    ∙ ap (replicate c.args.limits.handles) just_made
