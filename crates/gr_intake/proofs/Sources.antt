-- The streams that have come are sources, whose records that wait are still to come.
use Rattle.gr_model.proofs.Common.{◌≡◌, ◌≢◌, ◌<◌, ℕ, List, [], ◌∷◌, length, map, get_or, AllPairs, Contains, refl, sym, ap, ◌∙◌, subst, arith, get_or-map, length-map, All-contains, Contains-get_or}
use Rattle.gr_intake.specs.Types.{Event, Header}
use Rattle.gr_model.specs.Prelude.{Streams, IsAccepted, IsPrefix}
use Rattle.gr_intake.specs.Intakes.{AreSeen, come, come_of}
use Rattle.gr_intake.specs.Joined.{Flat, headers_in}
use Rattle.gr_intake.specs.Laws.{AreStreams}
use Rattle.gr_intake.specs.Waiting.{Coming}
use Rattle.gr_taking.specs.Sources.{MayCome, come_from}
use Rattle.gr_intake.proofs.Judged.{its_group}
use Rattle.gr_intake.proofs.Mapped.{mapped_there}

abbrev header : Coming → Header
header c = c.header

abbrev group : Header → ℕ
group h = h.group

abbrev coming : Coming → List Event
coming c = c.waiting

abbrev pairs : Streams → List Coming → List (Header × List Event)
pairs s cs = come_from header group coming s cs

-- what has come of them, as streams
abbrev flat : Header × List Event → Flat
flat p = record { header = p.0; events = p.1 }

come_flat : (s : Streams) (cs : List Coming) → map flat (pairs s cs) ≡ come s cs
come_flat s [] = refl
come_flat s (c ∷ cs) = ap (λ (fs : List Flat). come_of s c ∷ fs) (come_flat s cs)

-- the same has come where the same has come of the sources
pub come_as : (s t : Streams) (old new : List Coming) → pairs s old ≡ pairs t new → come s old ≡ come t new
come_as s t old new same = sym (come_flat s old) ∙ (ap (map flat) same ∙ come_flat t new)

module _ (s : Streams) (cs : List Coming) (are : AreStreams (come s cs)) (seen : AreSeen s.sizes (headers_in (come s cs))) where
  -- the stream of a source
  in_come : (k : ℕ) (p : Header × List Event) → k < length (pairs s cs) → Contains (come s cs) (flat (get_or (pairs s cs) k p))
  in_come k p lt =
      subst (λ (fs : List Flat). Contains fs (flat (get_or (pairs s cs) k p))) (come_flat s cs) (mapped_there flat (pairs s cs) (get_or (pairs s cs) k p) (Contains-get_or (pairs s cs) k p lt))

  apart : AllPairs (λ f g. f.header.group ≢ g.header.group) (map flat (pairs s cs))
  apart = subst (λ (fs : List Flat). AllPairs (λ f g. f.header.group ≢ g.header.group) fs) (sym (come_flat s cs)) are.groups

  -- so they may come
  pub streams_may_come : MayCome group s.sizes (pairs s cs)
  streams_may_come = record {
    there = λ k p lt. (its_group s (come s cs) seen (flat (get_or (pairs s cs) k p)) (in_come k p lt)).0;
    prefixes = λ k p lt.
        let f = flat (get_or (pairs s cs) k p) in
        let here : IsAccepted f.header.items f.events = All-contains (λ (x : Flat). IsAccepted x.header.items x.events) (come s cs) f are.accepted (in_come k p lt) in
        subst (λ (n : ℕ). IsPrefix n f.events) (sym (its_group s (come s cs) seen f (in_come k p lt)).1) (record { few = here.few; good = here.good });
    differ = λ i j p lt in_list. λ same.
        let before : i < length (pairs s cs) = omega (arith, lt, in_list) in
        apart i j (flat p) lt (omega (arith, in_list, length-map (pairs s cs) flat))
        (ap (λ (f : Flat). f.header.group) (get_or-map flat (pairs s cs) i p (flat p) before) ∙ (same ∙ ap (λ (f : Flat). f.header.group) (sym (get_or-map flat (pairs s cs) j p (flat p) in_list))));
  }
