-- What a sender keeps over a push.
use Rattle.gr_model.proofs.Common.{◌≡◌, ℕ, ◌+◌, ◌<◌, Bool, [], ◌∷◌, ◌++◌, length, sym, ◌∙◌, subst, arith, length-append, IsFalse}
use Rattle.gr_model.specs.declared.event.Event.{Event}
use Rattle.gr_model.specs.Prelude.{is_complete, is_end}
use Rattle.gr_model.proofs.Sending.{is_complete-push}
use Rattle.gr_route.specs.IntakeSeats.{Seat}
use Rattle.gr_route.specs.Rooms.{Room}
use Rattle.gr_threads.specs.Senders.{IsSender}

pub after_push : (queue : Room) (seat seat' : Seat) (group items records sent : ℕ) (closed closed' : Bool) (e : Event) → IsSender queue seat group items records sent closed
    → closed' ≡ is_end e → (IsFalse (is_end e) → length seat.pushed + 1 < records) → seat' ≡ record seat { pushed = seat.pushed ++ e ∷ [] } → IsSender queue seat' group items records (sent + 1) closed'
after_push queue seat seat' group items records sent closed closed' e s mark room now =
    let n = s.count in
    let count : sent + 1 ≡ length (seat.pushed ++ e ∷ []) = omega (arith, length-append seat.pushed (e ∷ [])) in
    let ends : closed' ≡ is_complete (seat.pushed ++ e ∷ []) = mark ∙ sym (is_complete-push seat.pushed e) in
    let left : IsFalse closed' → sent + 1 < records = λ goes_on. let least = room (sym mark ∙ goes_on) in omega (arith, least, n) in
    subst (λ (k : Seat). IsSender queue k group items records (sent + 1) closed') (sym now) (assumption (count, ends, left, s))
