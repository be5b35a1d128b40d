use Rattle.std.proofs.Common.{rules}
use Rattle.stream.proofs.UnderPermit.{never_traps}
use Rattle.stream.proofs.permitted.write_part.Goals as goal

pub unreachable-requires : goal.unreachable-requires
unreachable-requires g c =
    let S = g.S.OutputStream in
    let laws = g.met.S.OutputStream in
    let permitted = c.requires.permitted in
    let untrapped = never_traps S.meaning S.checked S.accepts S.wrote laws.keeping S.turned laws.permits (S.view c.args.stream.now) c.args.part.now in
    search rules
