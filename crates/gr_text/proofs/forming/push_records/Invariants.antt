use Rattle.gr_model.proofs.Common.{◌≡◌, ◌-◌, ◌++◌, flat_map}
use Rattle.gr_text.specs.Prelude.{MOST_RECORDS, formed_event, behind_end}
use Rattle.gr_record.specs.Prelude.{records_of, all_sited}
use Rattle.gr_text.proofs.forming.push_records.Given as goal

-- what is read of the bytes left completes what is read of all
abbrev pub invariant-loop : goal.invariant-loop
invariant-loop g l =
    let written = flat_map (formed_event l.form l.header.version) in
    let all = records_of l.header MOST_RECORDS l.bytes in
    let rest = records_of l.header (MOST_RECORDS - l.counter) l.rest in
    (l.output.items ++ written (all_sited l.header.version rest.events l.rest) ≡ l.initial.output.items ++ written (all_sited l.header.version all.events l.bytes)) × (behind_end rest.stop rest.rest ≡ behind_end all.stop all.rest)
