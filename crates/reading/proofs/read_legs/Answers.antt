-- The tests of the number of legs, of each leg, and of the roots, as the definitions make them.
use Rattle.std.proofs.Common.{rules, arith, ◌≡◌, refl, sym, ◌∙◌, ◌||◌, not, ap, true, false, length, take, get_or}
use Rattle.std.proofs.lemmas.Result.{err_from_is_err_and}
use Rattle.std.specs.Option.{unwrap_or}
use Rattle.answers.specs.declared.Refusal.TheVariants.{BadSymbol, BadCount}
use Rattle.rules.specs.Limits.{within}
use Rattle.rules.specs.Order.{no_raw_leg}
use Rattle.rules.specs.Numbers.{first_of}
use Rattle.reading.proofs.Reading.{none_read, next_read, bad_symbol, all_read, untagged, tagged}
use Rattle.reading.proofs.read_legs.Goals as goal

pub loop-i-init : goal.loop-i-init
loop-i-init c = none_read _ _ _ _

pub returns-in_err-tag-clause-number : goal.returns-in_err-tag-clause-number
unfolding first_of
returns-in_err-tag-clause-number c =
    let some : within 1 16 c.args.n ≡ true = search rules in
    let long : length (get_or (take c.args.n c.args.legs.now) c.loop-i.i no_raw_leg).symbol ≡ 21 = search rules in
    let u = untagged c.tag_at.result BadSymbol c.in_err-tag.ensures.value in
    let bad = bad_symbol (take c.args.n c.args.legs.now) c.loop-i.invariant (omega arith) long (sym u.1 ∙ c.tag_at.ensures.tag) in
    let p = err_from_is_err_and c.from_residual-in_err-tag.result c.from_residual-in_err-tag.ensures.1 in
    rw (p.1, p.2, u.0, some, bad)

pub loop-i-preserved : goal.loop-i-preserved
loop-i-preserved c =
    let rs = take c.args.n c.args.legs.now in
    let long : length (get_or rs c.loop-i.i no_raw_leg).symbol ≡ 21 = search rules in
    let t = tagged c.tag_at.result BadSymbol c.in_ok-tag.ensures.value in
    let found = rw t at c.tag_at.ensures.found in
    next_read rs c.loop-i.invariant (omega arith) long (search rules) (search rules) (search rules) (ap (λ o. unwrap_or o 0) (sym t) ∙ c.tag_at.ensures.tag) found.0 c.place_of.ensures c.root_of-root.ensures refl (ap (λ b. c.loop-i.bad || not b) c.within-in-loop-i.ensures)

pub returns-in_err-fail_if-2-clause-number : goal.returns-in_err-fail_if-2-clause-number
unfolding first_of
returns-in_err-fail_if-2-clause-number c =
    let some : within 1 16 c.args.n ≡ true = search rules in
    let a = all_read (take c.args.n c.args.legs.now) c.loop-i.invariant (omega arith) (omega arith) in
    let p = err_from_is_err_and c.from_residual-in_err-fail_if-2.result c.from_residual-in_err-fail_if-2.ensures.1 in
    let bad : c.loop-i.bad ≡ true = search rules in
    let e : c.in_err-fail_if-2.field-0.0 ≡ BadCount = grind arith in
    rw (p.1, p.2, e, some, a.symbols, a.counts, bad)

pub returns-clause-number : goal.returns-clause-number
unfolding first_of
returns-clause-number c =
    let some : within 1 16 c.args.n ≡ true = search rules in
    let a = all_read (take c.args.n c.args.legs.now) c.loop-i.invariant (omega arith) (omega arith) in
    let bad : c.loop-i.bad ≡ false = grind arith in
    rw (some, a.symbols, a.counts, bad)

pub returns-clause-good : goal.returns-clause-good
returns-clause-good c =
    let a = all_read (take c.args.n c.args.legs.now) c.loop-i.invariant (omega arith) (omega arith) in
    record { len = refl; few = search rules; placed = a.placed; other = a.others }
