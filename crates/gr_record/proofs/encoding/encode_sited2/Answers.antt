use Rattle.gr_model.proofs.Common.{ℕ, List, ◌++◌, ap, ◌∙◌}
use Rattle.gr_record.specs.Prelude.{fields_bytes}
use Rattle.gr_record.proofs.Places.{few_names}
use Rattle.gr_record.proofs.Written.{four_written, fields_length, four_places, place_length}
use Rattle.gr_record.proofs.encoding.encode_sited2.Goals as goal

pub returns : goal.returns
returns c =
    let e = c.args.event.now in
    let fields = fields_bytes e c.args.site in
    rw (c.encode_name.ensures, c.encode_name-2.ensures, c.encode_name-3.ensures, c.encode_name-4.ensures, c.copy_from_slice.ensures.after, c.bytes_of_fields.ensures)
    (four_written fields c.args.bytes.now _ _ _ _ (fields_length e c.args.site) c.told-bytes (place_length _) (place_length _) (place_length _) (place_length _) ∙ ap (λ (x : List ℕ). fields ++ x)
    (rw (c.name_at.ensures, c.name_at-2.ensures, c.name_at-3.ensures, c.name_at-4.ensures, c.as_slice-names.ensures.names) (four_places e.names (few_names e.kind e.names c.requires.1))))
