-- Four bytes more have the byte 1, or are passed; then the rest has it, or none.
use Rattle.std.proofs.Common.{◌∙◌}
use Rattle.fields.proofs.Runs.{in_four, four_passed, in_rest, in_none}
use Rattle.fields.proofs.value_len.Goals as goal

pub returns-in-Some : goal.returns-in-Some
returns-in-Some c = in_four _ _ c.as_chunks.ensures.front c.as_chunks.ensures.front_len c.loop-i.i c.loop-i.invariant c.loop-i-test.true c.in-Some.ensures

pub loop-i-preserved : goal.loop-i-preserved
loop-i-preserved c = four_passed _ _ c.as_chunks.ensures.front c.as_chunks.ensures.front_len c.loop-i.i c.loop-i.invariant c.loop-i-test.true c.in_default.ensures

pub returns-in_err-n : goal.returns-in_err-n
returns-in_err-n c =
    c.from_residual.ensures ∙ in_none _ _ c.as_chunks.ensures.front c.as_chunks.ensures.front_len c.loop-i.i c.loop-i.invariant _ c.as_chunks.ensures.back c.loop-i.auto.i-end c.loop-i-test.false c.in_err-n.ensures

pub returns : goal.returns
returns c = in_rest _ _ c.as_chunks.ensures.front c.as_chunks.ensures.front_len c.loop-i.i c.loop-i.invariant _ c.as_chunks.ensures.back c.loop-i.auto.i-end c.loop-i-test.false c.in_ok-n.ensures
