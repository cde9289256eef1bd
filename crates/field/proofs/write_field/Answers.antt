-- `field::write_field` meets its contract: an unknown tag is the definition's refusal, and the stores make the field.
-- Assumes nothing.
use Rattle.std.proofs.Common.{arith}
use Rattle.std.proofs.lemmas.Result.{err_from_is_err_and}
use Rattle.field.proofs.Rows.{proper, known, why}
use Rattle.field.proofs.Writings.{small, unknown, field_stores}
use Rattle.field.proofs.write_field.Goals as goal

pub returns-in_err-own : goal.returns-in_err-own
returns-in_err-own c =
    let given = err_from_is_err_and c.from_residual.result c.from_residual.ensures.1 in
    let none = c.in_err-own.ensures.ok_part in
    rw (given.1, why c.in_err-own.ensures.value none given.2) (unknown _ _ (known _ c.layout_of.ensures none))

pub overflow_add-whole : goal.overflow_add-whole
overflow_add-whole c = omega (arith, small _ (proper _ _ (known _ c.layout_of.ensures c.in_ok-own.ensures.ok_part)))

pub overflow_cast-length : goal.overflow_cast-length
overflow_cast-length c = omega (arith, small _ (proper _ _ (known _ c.layout_of.ensures c.in_ok-own.ensures.ok_part)))

pub write_body-requires-clause-proper : goal.write_body-requires-clause-proper
write_body-requires-clause-proper c = proper _ _ (known _ c.layout_of.ensures c.in_ok-own.ensures.ok_part)

pub returns : goal.returns
returns c =
    let own = known _ c.layout_of.ensures c.in_ok-own.ensures.ok_part in
    field_stores _ _ _ own _ _ (proper _ _ own) c.if-target-whole.false c.write.ensures c.write_body.ensures
