use Rattle.gr_model.proofs.Common.{◌++◌, ap, arith, err_from_is_err_and, length-append, refl, subst, sym, take, ◌∙◌}
use Rattle.gr_model.specs.Prelude.{CanAdd}
use Rattle.gr_order.specs.Sequences.{Sequence, with_group}
use Rattle.gr_record.specs.declared.layout.TheConstants.{HEADER_LENGTH}
use Rattle.gr_intake.specs.Intakes.{headers_of}
use Rattle.gr_intake.proofs.Comings.{begun_behind, between, has_begun, header_fails, header_left, may_come, may_follow, none_goes_on}
use Rattle.gr_intake.proofs.Seen.{after_more}
use Rattle.gr_intake.proofs.intake.Intake.take_header.Goals as goal

pub returns-in_err-header-clause-fault : goal.returns-in_err-header-clause-fault
returns-in_err-header-clause-fault g c =
    let p = err_from_is_err_and c.from_residual.result c.from_residual.ensures.1 in
    rw (p.1, p.2) (λ more. header_fails c.args.self.now c.requires.none c.args.bytes.now more (omega (arith, c.if-bytes-lt-HEADER_LENGTH.false)) c.in_err-header.field-0.0 c.in_err-header.ensures.exact)

pub with_group-requires : goal.with_group-requires
with_group-requires g c =
    let i = c.args.self.now in
    let h = c.in_ok-header.header in
    let follows = may_follow (headers_of i.streams.items) c.args.bytes.now h c.in_ok-header.rest.now c.in_ok-header.ensures.exact c.in_ok-header.ensures.header in
    let can = may_come i.sequencer i.shadows i.streams.items h (none_goes_on i c.requires.none c.requires.intake) follows in
    subst (λ (q : Sequence). CanAdd q.taken h.group h.items) (sym c.replace-sequencer.ensures.value) can

pub returns-clause-moves : goal.returns-clause-moves
returns-clause-moves g c =
    let i = c.args.self.now in
    let cs = i.streams.items in
    let h = c.in_ok-header.header in
    let rest = c.in_ok-header.rest.now in
    let bytes = c.args.bytes.now in
    let is = c.in_ok-header.ensures.exact in
    let read = none_goes_on i c.requires.none c.requires.intake in
    let follows = may_follow (headers_of cs) bytes h rest is c.in_ok-header.ensures.header in
    let left = header_left (headers_of cs) bytes h rest is in
    let grown = c.in_ok-grown.ensures ∙ ap (λ (q : Sequence). with_group q h.group h.items) c.replace-sequencer.ensures.value in
    record {
      intake = has_begun i.sequencer i.shadows cs h read follows c.in_ok-grown.grown grown c.new.result c.new.ensures.backlog c.new.ensures.count;
      goes = λ more.
          between i c.requires.none (bytes ++ more)
          ∙ begun_behind i.sequencer i.shadows cs h read follows c.in_ok-grown.grown grown c.new.result c.new.ensures.backlog c.new.ensures.count (bytes ++ more) (rest ++ more) (omega (arith, length-append bytes more, left.0)) (rw (after_more bytes more left.0 (headers_of cs), is) refl);
      left = (take HEADER_LENGTH bytes, left.1);
    }

pub returns-clause-stuck : goal.returns-clause-stuck
returns-clause-stuck g c = λ same. absurd (omega (arith, same, (header_left (headers_of c.args.self.now.streams.items) c.args.bytes.now c.in_ok-header.header c.in_ok-header.rest.now c.in_ok-header.ensures.exact).2))
