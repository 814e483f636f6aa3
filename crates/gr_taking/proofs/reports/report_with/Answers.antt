use Rattle.gr_model.proofs.Common.{◌∙◌, ap, length, sum}
use Rattle.gr_taking.proofs.reports.report_with.Goals as goal

pub returns-clause-but_races : goal.returns-clause-but_races
returns-clause-but_races g c =
    record {
      divergences = rw c.of-2.ensures c.in_ok-divergences.ensures;
      unmatched = rw c.of-3.ensures c.in_ok-unmatched.ensures;
      cut = rw c.of-4.ensures c.in_ok-cut.ensures;
      held = c.held.ensures.held c.requires;
      groups = c.groups.ensures.count ∙ ap length c.shape-shape.ensures.sizes;
      items = c.total.ensures.total ∙ ap sum c.shape-shape.ensures.sizes;
      records = c.records_of.ensures;
    }
