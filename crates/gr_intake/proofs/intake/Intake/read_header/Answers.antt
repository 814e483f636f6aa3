use Rattle.gr_model.proofs.Common.{◌≡◌, arith, length, length-map, slice_get, slice_get-map, sym, ◌∙◌}
use Rattle.gr_intake.specs.Intakes.{headers_of}
use Rattle.gr_intake.specs.Waiting.{Coming}
use Rattle.gr_intake.proofs.Comings.{none_goes_on, seen_whole}
use Rattle.gr_intake.proofs.intake.Intake.read_header.Goals as goal

pub returns-clause-exact : goal.returns-clause-exact
returns-clause-exact g c =
    let i = c.args.self.now in
    let cs = i.streams.items in
    let count : length (headers_of cs) ≡ c.len-place.result = omega (arith, length-map cs (λ (x : Coming). x.header), c.len-place.ensures, i.streams.ok.0) in
    let first : slice_get (headers_of cs) 0 ≡ c.first_header-first.result = slice_get-map (λ (x : Coming). x.header) cs 0 ∙ sym (rw c.deref.ensures.value at c.first_header-first.ensures) in
    c.read_header_after.ensures.exact (headers_of cs) count first (rw c.shape.ensures.sizes (seen_whole i.sequencer i.shadows cs (none_goes_on i c.requires.none c.requires.intake)))
