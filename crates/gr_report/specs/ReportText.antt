-- The text of a report: a line each, numbers in decimal.
-- Source: docs/OUTPUT.md, "The report".
use Rattle.std.specs.Prelude.{ℕ, List, ◌++◌, length, decimal, codes}
use Rattle.std.specs.List.{flat_map}
use Rattle.gr_model.specs.declared.event.Word.{Word}
use Rattle.gr_model.specs.declared.event.Word.TheVariants.{Global, Local}
use Rattle.gr_model.specs.declared.report.Divergence.{Divergence}
use Rattle.gr_model.specs.declared.report.DivergenceCause.{DivergenceCause}
use Rattle.gr_model.specs.declared.report.DivergenceCause.TheVariants.{Missing, Site, Flags}
use Rattle.gr_model.specs.declared.report.Unmatched.{Unmatched}
use Rattle.gr_model.specs.declared.report.AcquireCause.{AcquireCause}
use Rattle.gr_model.specs.declared.report.AcquireCause.TheVariants.{Absent, OtherWord, Behind}
use Rattle.gr_model.specs.Prelude.{WholeReport}
use Rattle.gr_report.specs.Putting.{field, line}

-- the version, and how large the launch is
abbrev pub head_text : WholeReport → List ℕ
head_text r =
    field (codes "gpurace 1\ngroups ") (decimal r.groups)
    ++ field (codes " items ") (decimal r.items)
    ++ line (codes " records ") (decimal r.records)

-- a group whose stream was cut
abbrev pub cut_line : ℕ → List ℕ
cut_line group = line (codes "cut ") (decimal group)

-- a word that has a data race
abbrev pub race_line : Word → List ℕ
race_line (Global number) = line (codes "race global ") (decimal number)
race_line (Local group number) = field (codes "race local ") (decimal group) ++ line (codes " ") (decimal number)

-- a divergent instance of a group's barriers, and its cause
abbrev pub divergence_end : DivergenceCause → List ℕ
divergence_end Missing = codes " missing\n"
divergence_end Site = codes " site\n"
divergence_end Flags = codes " flags\n"

abbrev pub divergence_line : Divergence → List ℕ
divergence_line d = field (codes "diverge ") (decimal d.group) ++ (field (codes " ") (decimal d.instance) ++ divergence_end d.cause)

-- an unmatched acquire, by its group, item and index, and its cause
abbrev pub unmatched_end : AcquireCause → List ℕ
unmatched_end Absent = codes " absent\n"
unmatched_end OtherWord = codes " otherword\n"
unmatched_end Behind = codes " behind\n"

abbrev pub unmatched_line : Unmatched → List ℕ
unmatched_line u =
    field (codes "unmatched ") (decimal u.event.at.group)
    ++ (field (codes " ") (decimal u.event.at.item) ++ (field (codes " ") (decimal u.event.index) ++ unmatched_end u.cause))

-- how many lines of each kind there are, and how many events are held
abbrev pub end_line : WholeReport → List ℕ
end_line r =
    field (codes "end races ") (decimal (length r.races))
    ++ field (codes " diverge ") (decimal (length r.divergences))
    ++ field (codes " unmatched ") (decimal (length r.unmatched))
    ++ line (codes " held ") (decimal r.held)

-- the whole text: the kinds of lines in this order, and of one kind as the report lists them
abbrev pub report_text : WholeReport → List ℕ
report_text r =
    head_text r
    ++ flat_map cut_line r.cut
    ++ flat_map race_line r.races
    ++ flat_map divergence_line r.divergences
    ++ flat_map unmatched_line r.unmatched
    ++ end_line r
