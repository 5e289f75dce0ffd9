use Rattle.std.proofs.Common.{◌∙◌, sym, arith}
use Rattle.leg_tag.proofs.Tags.{known_root}
use Rattle.leg_tag.proofs.is_root_after.Goals as goal

pub returns-then-eq : goal.returns-then-eq
returns-then-eq c =
    let r = c.requires in
    c.if-eq.true ∙ known_root c.args.known c.args.bytes.now r.0 r.1 r.2 (λ i. omega (arith, c.type_inv.bytes i)) (sym c.eq.ensures ∙ c.if-eq.true)
