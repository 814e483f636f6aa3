-- A report as the definitions see it, and whether it finds anything.
use Rattle.std.specs.Prelude.{◌≢◌, ◌⊎◌, []}
use Rattle.gr_model.specs.Prelude.{WholeReport}
use Rattle.gr_report.specs.declared.report.Report.{Report}

-- the same report, in the words of the definitions
abbrev pub whole_of : {Z : Type 0} → Report Z → WholeReport
whole_of r =
    record {
      races = r.races;
      divergences = r.divergences;
      unmatched = r.unmatched;
      cut = r.cut;
      held = r.held;
      groups = r.groups;
      items = r.items;
      records = r.records;
    }

-- there is a race, a divergent barrier or an unmatched acquire
abbrev pub HasFinding : WholeReport → Type 0
HasFinding r = (r.races ≢ []) ⊎ (r.divergences ≢ []) ⊎ (r.unmatched ≢ [])
