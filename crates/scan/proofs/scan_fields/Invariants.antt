-- From the fields that are left on the state becomes that after all fields.
use Rattle.fields.specs.Fields.{fields_at}
use Rattle.scan.proofs.Laws.{Left}
use Rattle.scan.proofs.scan_fields.Given as goal

abbrev pub invariant-loop-f : goal.invariant-loop-f
invariant-loop-f l = Left l.message l.at l.s (fields_at l.f-iterator.message.now l.f-iterator.at)
