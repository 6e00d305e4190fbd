use Rattle.std.proofs.Common.{Result, Ok, Err, OnOk, sym, ◌∙◌}
use Rattle.std.proofs.lemmas.Result.{err_from_is_err_and, IfErr-weaker}
use Rattle.emtp_elim.proofs.Solutions.{solves_right_fault, solves_unknown_fault, solves_ok}
use Rattle.emtp_elim.proofs.sparse.SparseRows.solve.Goals as goal

on_ok_both : {T E P Q R : Type 0} (r : Result T E) → (P → Q → R) → OnOk r P → OnOk r Q → OnOk r R
on_ok_both (Ok x) f p q = f p q
on_ok_both (Err e) f p q = tt

pub returns-in_err-reduce_right-clause-fault : goal.returns-in_err-reduce_right-clause-fault
returns-in_err-reduce_right-clause-fault c =
    let returned = err_from_is_err_and c.from_residual.result c.from_residual.ensures.1 in
    rw (returned.1, returned.2) (solves_right_fault c.args.self.now.rows c.args.rhs.now _ c.in_err-reduce_right.ensures.fault)

pub returns-clause-solved : goal.returns-clause-solved
returns-clause-solved c =
    on_ok_both c.substitute_back.result (solves_ok c.args.self.now.rows c.args.rhs.now c.reduce_right.new.x c.substitute_back.new.x c.substitute_back.ensures.square (c.requires.rhs ∙ sym c.requires.full) c.in_ok-reduce_right.ensures.reduced)
    c.substitute_back.ensures.solved c.substitute_back.ensures.within

pub returns-clause-fault : goal.returns-clause-fault
returns-clause-fault c =
    IfErr-weaker c.substitute_back.result _ _ (λ fault last. solves_unknown_fault c.args.self.now.rows c.args.rhs.now c.reduce_right.new.x fault.row c.substitute_back.ensures.square (c.requires.rhs ∙ sym c.requires.full) c.in_ok-reduce_right.ensures.reduced last)
    c.substitute_back.ensures.fault
