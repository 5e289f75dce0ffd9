-- The legs make a complex order, whatever their root.
use Rattle.std.proofs.Common.{false, ◌∙◌, rules}
use Rattle.rules.specs.Numbers.{first_of}
use Rattle.keys.specs.Tags.{legs_from}
use Rattle.buy_buy.proofs.Laws.{complex}
use Rattle.complex_checks.proofs.Laws.{of_complex, shape_root}
use Rattle.complex_checks.proofs.rejection.Goals as goal

pub returns-in_err-fail_if : goal.returns-in_err-fail_if
unfolding first_of
returns-in_err-fail_if c root m =
    let a = c.args in
    let us = legs_from root false a.tags.now a.units.now in
    let k = complex a.st a.t a.tags.now a.units.now c.requires.0 c.requires.1 root in
    rw (← of_complex a.st m a.t us a.class k) (search rules)

pub returns-in_err-fail_if-2 : goal.returns-in_err-fail_if-2
unfolding first_of
returns-in_err-fail_if-2 c root m =
    let a = c.args in
    let us = legs_from root false a.tags.now a.units.now in
    let k = complex a.st a.t a.tags.now a.units.now c.requires.0 c.requires.1 root in
    rw (← of_complex a.st m a.t us a.class k) (search rules)

pub returns : goal.returns
unfolding first_of
returns c root m =
    let a = c.args in
    let us = legs_from root false a.tags.now a.units.now in
    let k = complex a.st a.t a.tags.now a.units.now c.requires.0 c.requires.1 root in
    let s = c.requires.2 ∙ shape_root root a.tags.now a.units.now in
    rw (← of_complex a.st m a.t us a.class k) (search rules)
