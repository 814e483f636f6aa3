use Rattle.gr_model.proofs.Common.{◌∙◌, ap, arith, err_from_is_err_and}
use Rattle.std.specs.Int.{from_bool}
use Rattle.gr_windows.proofs.RowLemmas.{fits_more, kept_more, kept_still, written_more, written_still}
use Rattle.gr_windows.proofs.row.Row.push.Goals as goal

pub overflow_add-self : goal.overflow_add-self
overflow_add-self g c =
    let fits = fits_more c.self.invariant c.self.view_is c.in_ok-begin.ensures.ok c.from.ensures c.requires c.index_mut.ensures.value c.args.event.now c.from-2.result (c.from-2.ensures ∙ ap from_bool c.in_ok-only.ensures.only) in
    omega (arith, fits, c.self.ranges.0.1)

pub invariant_of-self-2 : goal.invariant_of-self-2
invariant_of-self-2 g c = kept_more c.self.invariant c.self.view_is c.in_ok-begin.ensures.ok c.from.ensures c.requires c.index_mut.ensures.value c.args.event.now c.push.new.self c.from-2.result c.in_ok-only.ensures.ok
    (c.from-2.ensures ∙ ap from_bool c.in_ok-only.ensures.only)

pub invariant_of-self-in_err-only : goal.invariant_of-self-in_err-only
invariant_of-self-in_err-only g c = kept_still c.self.invariant c.self.view_is c.in_ok-begin.ensures.ok c.from.ensures c.requires c.index_mut.ensures.value c.push.new.self c.in_err-only.ensures.err

pub returns-in_err-only-clause-err : goal.returns-in_err-only-clause-err
returns-in_err-only-clause-err g c =
    let p = err_from_is_err_and c.from_residual-in_err-only.result c.from_residual-in_err-only.ensures.1 in
    rw (p.1) (written_still c.self.invariant c.self.view_is c.in_ok-begin.ensures.ok c.from.ensures c.requires c.index_mut.ensures.value c.push.new.self c.in_err-only.ensures.err)

pub returns-clause-ok : goal.returns-clause-ok
returns-clause-ok g c = written_more c.self.invariant c.self.view_is c.in_ok-begin.ensures.ok c.from.ensures c.requires c.index_mut.ensures.value c.args.event.now c.push.new.self c.in_ok-only.ensures.ok
