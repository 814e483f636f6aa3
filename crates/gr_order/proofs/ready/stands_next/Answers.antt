use Rattle.gr_model.proofs.Common.{Some, ap, arith, sym, ◌∙◌}
use Rattle.gr_model.specs.Prelude.{mark_of, trace_of}
use Rattle.gr_model.proofs.Places.{place-filter_map}
use Rattle.gr_order.proofs.ready.stands_next.Goals as goal

pub returns-then-are_alike : goal.returns-then-are_alike
returns-then-are_alike g c =
    let came = place-filter_map mark_of 0 (trace_of c.args.lanes.now.streams c.args.item) c.args.number c.in-Some.index (sym c.in-Some.ensures) in (
      λ holds. record {
        place = sym c.in-Some.ensures ∙ ap Some (c.if-index-get.true ∙ c.get.ensures.count);
        mark = grind (arith, c.requires.alike c.if-are_alike.true, came.1);
      },
      λ is. grind (arith, c.if-are_alike.true),
    )
