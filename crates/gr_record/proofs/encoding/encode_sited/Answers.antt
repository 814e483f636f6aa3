use Rattle.gr_model.proofs.Common.{ℕ, List, ◌++◌, ap, ◌∙◌}
use Rattle.gr_record.specs.Prelude.{fields_bytes, place_bytes}
use Rattle.gr_record.proofs.Written.{one_written, fields_length, one_place}
use Rattle.gr_record.proofs.encoding.encode_sited.Goals as goal

pub returns : goal.returns
returns c =
    let e = c.args.event.now in
    let fields = fields_bytes e c.args.site in
    rw (c.encode_name.ensures, c.copy_from_slice.ensures.after, c.bytes_of_fields.ensures)
    (one_written fields c.args.bytes.now (place_bytes c.name_at.result) (fields_length e c.args.site) c.told-bytes ∙ ap (λ (x : List ℕ). fields ++ x) (rw (c.name_at.ensures, c.as_slice.ensures.names) (one_place e.names)))
