-- A word that is hit in what a worker received is racy, and stays racy if lists grow.
use Rattle.gr_model.proofs.Common.{◌≡◌, ℕ, ◌<◌, ◌==◌, true, List, ◌++◌, sym, ap, ◌∙◌, subst}
use Rattle.gr_model.specs.declared.event.Word.{Word}
use Rattle.gr_model.specs.Prelude.{worker_number, IsRacy, Grows, Streams, IsGrounded}
use Rattle.gr_model.proofs.HitLaws.{IsHit-filter}
use Rattle.gr_model.proofs.Places.{slice_get-append}
use Rattle.gr_model.proofs.RaceGrowth.{races_stay}
use Rattle.gr_steps.proofs.EventRecords.{filter-there}
use Rattle.gr_shadow.specs.Clashes.{ClockedAccess, IsHitIn, clashes}
use Rattle.gr_closure.specs.AccessesAlong.{in_flight_list}
use Rattle.gr_closure.proofs.Clashing.{lawful_hits_are_races}
use Rattle.gr_world.specs.Worlds.{IsPassedOn, IsWorld, World, accesses_for, work_at, worker_of}

-- a word that is hit in a prefix of a list is hit in the list
hit_in_prefix : (xs ys : List ClockedAccess) (v : Word) → IsHitIn xs v → IsHitIn (xs ++ ys) v
hit_in_prefix xs ys v (p, q, x, y, before, first, second, clash) =
    (p, q, x, y, before, slice_get-append xs ys p x first, slice_get-append xs ys q y second, clash)

-- a word that is hit in the accesses that go to a worker goes to the worker
pub hit_goes : (w : World) (k : ℕ) (v : Word) (accesses : List ClockedAccess) → IsHitIn (accesses_for w k accesses) v → (worker_number v w.config.workers == k) ≡ true
hit_goes w k v accesses (p, q, x, y, before, first, second, clash) =
    let there = filter-there (λ z. worker_of w z == k) accesses p x first in
    ap (λ u. worker_number u w.config.workers == k) (sym clash.first) ∙ there.2

-- a word that is hit in what a worker received is hit in the accesses along the handled order
received_hit_is_hit : (w : World) (k : ℕ) (v : Word) (accesses : List ClockedAccess) → IsPassedOn w accesses k → IsHitIn (work_at w k).received v → IsHitIn accesses v
received_hit_is_hit w k v accesses passed hit =
    let work = work_at w k in
    let front : IsHitIn (work.received ++ work.queue.items) v = hit_in_prefix work.received work.queue.items v hit in
    let whole = hit_in_prefix (work.received ++ work.queue.items) (accesses_for w k (in_flight_list w.in_flight)) v front in
    let mine : IsHitIn (accesses_for w k accesses) v = subst (λ (xs : List ClockedAccess). IsHitIn xs v) (sym passed) whole in
    (IsHit-filter (λ (x : ClockedAccess). x.word) clashes (λ u. worker_number u w.config.workers == k) accesses v (hit_goes w k v accesses mine)).1 mine

pub received_hits_stay : (w : World) (t : Streams) (k : ℕ) (v : Word) → IsWorld w → Grows w.sequence.taken t → k < w.config.workers → IsHitIn (work_at w k).received v → IsRacy t (IsGrounded t) v
received_hits_stay w t k v world grows there hit =
    let accesses = world.passed.accesses in
    let all : IsHitIn accesses v = received_hit_is_hit w k v accesses (world.passed.each k there) hit in
    let racy = (lawful_hits_are_races w.sequence.taken w.sequence.handled accesses v world.sequence.lawful world.passed.along).0 all in
    races_stay w.sequence.taken t grows v w.sequence.handled world.sequence.lawful racy
