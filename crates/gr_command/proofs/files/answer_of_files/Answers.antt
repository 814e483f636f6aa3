use Rattle.gr_model.proofs.Common.{◌∙◌, ap, sym, err_from_is_err_and}
use Rattle.gr_places.specs.SideLines.{buffers_in, places_in}
use Rattle.gr_places.proofs.FileLemmas.{buffers_refused, holds_of_all, places_refused, streams_refused, unread}
use Rattle.gr_command.proofs.StreamLemmas.{shown_fault}
use Rattle.gr_command.proofs.files.answer_of_files.Goals as goal

pub returns-in_err-place_bytes-clause-fault : goal.returns-in_err-place_bytes-clause-fault
returns-in_err-place_bytes-clause-fault g c =
    let p = err_from_is_err_and c.from_residual-in_err-place_bytes.result c.from_residual-in_err-place_bytes.ensures.1 in
    let files = c.in_ok-places.field-0 in
    rw (p.1, p.2)
    (unread g.T.Read.remaining _ _ _ (record { places = files.places; buffers = files.buffers }) files.streams.items c.in_ok-places.ensures.opened c.in_err-place_bytes.field-0.0 c.in_err-place_bytes.ensures.faults)

pub returns-in_err-places-2-clause-fault : goal.returns-in_err-places-2-clause-fault
returns-in_err-places-2-clause-fault g c =
    let p = err_from_is_err_and c.from_residual-in_err-places-2.result c.from_residual-in_err-places-2.ensures.1 in
    let files = c.in_ok-places.field-0 in
    rw (p.1, p.2)
    (places_refused g.T.Read.remaining _ _ _ (record { places = files.places; buffers = files.buffers }) files.streams.items c.in_ok-places.ensures.opened c.in_ok-place_bytes.place_bytes.items
    c.in_ok-place_bytes.ensures.bytes c.in_err-places-2.field-0.0 (rw c.deref.ensures.value at c.in_err-places-2.ensures.fault))

pub returns-in_err-buffer_bytes-clause-fault : goal.returns-in_err-buffer_bytes-clause-fault
returns-in_err-buffer_bytes-clause-fault g c =
    let p = err_from_is_err_and c.from_residual-in_err-buffer_bytes.result c.from_residual-in_err-buffer_bytes.ensures.1 in
    let files = c.in_ok-places.field-0 in
    rw (p.1, p.2)
    (unread g.T.Read.remaining _ _ _ (record { places = files.places; buffers = files.buffers }) files.streams.items c.in_ok-places.ensures.opened c.in_err-buffer_bytes.field-0.0 c.in_err-buffer_bytes.ensures.faults)

pub returns-in_err-buffers-clause-fault : goal.returns-in_err-buffers-clause-fault
returns-in_err-buffers-clause-fault g c =
    let p = err_from_is_err_and c.from_residual-in_err-buffers.result c.from_residual-in_err-buffers.ensures.1 in
    let files = c.in_ok-places.field-0 in
    let places_said = ap places_in (sym c.deref.ensures.value) ∙ c.in_ok-places-2.ensures.said in
    rw (p.1, p.2)
    (buffers_refused g.T.Read.remaining _ _ _ (record { places = files.places; buffers = files.buffers }) files.streams.items c.in_ok-places.ensures.opened
    c.in_ok-place_bytes.place_bytes.items c.in_ok-place_bytes.ensures.bytes _ places_said c.in_ok-buffer_bytes.buffer_bytes.items c.in_ok-buffer_bytes.ensures.bytes
    c.in_err-buffers.field-0.0 (rw c.deref-2.ensures.value at c.in_err-buffers.ensures.fault))

pub returns-in_err-answer_of_streams-clause-fault : goal.returns-in_err-answer_of_streams-clause-fault
returns-in_err-answer_of_streams-clause-fault g c =
    let p = err_from_is_err_and c.from_residual-in_err-answer_of_streams.result c.from_residual-in_err-answer_of_streams.ensures.1 in
    let files = c.in_ok-places.field-0 in
    let places_said = ap places_in (sym c.deref.ensures.value) ∙ c.in_ok-places-2.ensures.said in
    let buffers_said = ap buffers_in (sym c.deref-2.ensures.value) ∙ c.in_ok-buffers.ensures.said in
    rw (p.1, p.2)
    (streams_refused g.T.Read.remaining _ _ _ (record { places = files.places; buffers = files.buffers }) files.streams.items c.in_ok-places.ensures.opened
    c.in_ok-place_bytes.place_bytes.items c.in_ok-place_bytes.ensures.bytes _ places_said c.in_ok-buffer_bytes.buffer_bytes.items c.in_ok-buffer_bytes.ensures.bytes _ buffers_said
    c.in_err-answer_of_streams.field-0.0 (shown_fault _ _ c.in_err-answer_of_streams.ensures.fault))

pub returns-clause-told : goal.returns-clause-told
returns-clause-told g c =
    let files = c.in_ok-places.field-0 in
    let places_said = ap places_in (sym c.deref.ensures.value) ∙ c.in_ok-places-2.ensures.said in
    let buffers_said = ap buffers_in (sym c.deref-2.ensures.value) ∙ c.in_ok-buffers.ensures.said in
    holds_of_all g.T.Read.remaining _ _ _ (record { places = files.places; buffers = files.buffers }) files.streams.items c.in_ok-places.ensures.opened
    c.in_ok-place_bytes.place_bytes.items c.in_ok-place_bytes.ensures.bytes _ places_said c.in_ok-buffer_bytes.buffer_bytes.items c.in_ok-buffer_bytes.ensures.bytes _ buffers_said
    _ (rw (c.deref-3.ensures.value, c.deref-4.ensures.value) at c.in_ok-answer_of_streams.ensures.told)
