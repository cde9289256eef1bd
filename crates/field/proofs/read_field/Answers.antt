-- `field::read_field` meets its contract: each way out is one of the definition's.
-- Assumes nothing.
use Rattle.std.proofs.Common.{◌+◌, ◌∙◌, sym, ap}
use Rattle.std.proofs.lemmas.Result.{err_from_is_err_and}
use Rattle.field.specs.declared.Call.{Call}
use Rattle.field.specs.Field.{field}
use Rattle.field.proofs.Rows.{proper, known, why}
use Rattle.field.proofs.Readings.{unknown, accepted}
use Rattle.field.proofs.read_field.Goals as goal

pub returns-in_err-own : goal.returns-in_err-own
returns-in_err-own c =
    let given = err_from_is_err_and c.from_residual.result c.from_residual.ensures.1 in
    let none = c.in_err-own.ensures.ok_part in
    rw (given.1, why c.in_err-own.ensures.value none given.2)
    (c.at-2.ensures ∙ unknown _ _ c.if-bytes-place.false c.if-left-lt3.false (known _ c.layout_of.ensures none))

pub read_body-requires-clause-proper : goal.read_body-requires-clause-proper
read_body-requires-clause-proper c = proper _ _ (known _ c.layout_of.ensures c.in_ok-own.ensures.ok_part)

pub returns : goal.returns
returns c =
    let own = c.in_ok-own.own in
    let read = c.from.ensures ∙ c.read.ensures in
    ap (λ (found : Call). field own.kind found (3 + own.length)) c.read_body.ensures
    ∙ accepted _ _ _ c.if-bytes-place.false c.if-left-lt3.false (known _ c.layout_of.ensures c.in_ok-own.ensures.ok_part) (sym read ∙ c.if-from-length.false) c.if-left-length.false
