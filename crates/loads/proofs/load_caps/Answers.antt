-- Each return is a way through a load: 7, a refusal of the table, or 100 with the table put in force.
use Rattle.std.proofs.Common.{refl}
use Rattle.std.proofs.lemmas.Result.{err_from_is_err_and}
use Rattle.records.proofs.Refusals.{nonzero}
use Rattle.loads.proofs.Loading.{told, caps_7, table_7, lengths_7, even, refuses, loads}
use Rattle.loads.proofs.load_caps.Goals as goal

pub returns-then-caps-ne16 : goal.returns-then-caps-ne16
returns-then-caps-ne16 c = caps_7 _ _ (told c.args.values.now c.args.classes.now _ _ _ _) _ _ _ c.if-caps-ne16.true

pub returns-then-table-ne16 : goal.returns-then-table-ne16
returns-then-table-ne16 c = table_7 _ _ (told c.args.values.now c.args.classes.now _ _ _ _) _ _ _ c.if-table-ne16.true

pub returns-then-not-fit : goal.returns-then-not-fit
returns-then-not-fit c = lengths_7 _ _ _ _ _ _ (refl, refl) _ c.fit.ensures c.if-not-fit.true

pub judge_table-requires : goal.judge_table-requires
judge_table-requires c = (c.if-table-ne16.false, even (told c.args.values.now c.args.classes.now _ _ _ _) _ _ (refl, refl) _ c.fit.ensures c.if-not-fit.false)

pub returns-in_err-judge_table : goal.returns-in_err-judge_table
returns-in_err-judge_table c =
    let p = err_from_is_err_and c.from_residual.result c.from_residual.ensures.1 in
    rw (p.1, p.2)
    (refuses _ _ _ _ _ _ (refl, refl) _ c.fit.ensures c.if-caps-ne16.false c.if-table-ne16.false c.if-not-fit.false _
    c.in_err-judge_table.ensures (nonzero c.in_err-judge_table.field-0.0))

pub returns : goal.returns
returns c =
    loads _ _ _ _ _ _ (refl, refl) _ c.fit.ensures c.if-caps-ne16.false c.if-table-ne16.false c.if-not-fit.false _
    c.in_ok-judge_table.ensures refl _ c.put_caps.ensures
