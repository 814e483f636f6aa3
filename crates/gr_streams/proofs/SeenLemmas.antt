-- The launch of headers that were read, or the group that is missing, which the sizes of their groups show.
use Rattle.gr_model.proofs.Common.{◌≡◌, ◌<◌, ℕ, List, [], ◌∷◌, length, replicate, slice_index, refl, sym, ap, ◌∙◌, arith, get_or-map, get_or-replicate, length-map, length-replicate}
use Rattle.gr_model.specs.Prelude.{Streams}
use Rattle.gr_streams.specs.Types.{Event, Header}
use Rattle.gr_intake.specs.Intakes.{AreSeen}
use Rattle.gr_intake.specs.Joined.{Flat, headers_in}
use Rattle.gr_intake.specs.Launch.{IsLeastMissing}
use Rattle.gr_intake.proofs.Judged.{AreSomeBelow, its_group, launch_is, missing as missing_of}
use Rattle.gr_streams.specs.Headers.{AreHeadersOf, bare, bares}

headers_bare : (hs : List Header) → headers_in (bares hs) ≡ hs
headers_bare [] = refl
headers_bare (h ∷ hs) = ap (λ (l : List Header). h ∷ l) (headers_bare hs)

module _ (sizes : List ℕ) (hs : List Header) (seen : AreSeen sizes hs) where
  abbrev none : List Event
  none = []

  -- groups of these sizes, of which no record has come
  abbrev streams : Streams
  streams = record { sizes = sizes; lists = replicate (length sizes) none }

  seen_bare : AreSeen sizes (headers_in (bares hs))
  seen_bare = rw (headers_bare hs) seen

  pub missing : (g : ℕ) → g < length sizes → slice_index sizes g ≡ 0 → AreSomeBelow sizes g → IsLeastMissing (bares hs) g
  missing g lt empty some = missing_of streams (bares hs) seen_bare g lt empty some

  pub launch : AreSomeBelow sizes (length sizes) → AreHeadersOf hs sizes
  launch some = (
    streams,
    launch_is streams (bares hs) seen_bare (length-replicate (length sizes) none) some
        (λ f has.
        let there = (its_group streams (bares hs) seen_bare f has).0 in
        let events : none ≡ f.events = ap (λ (x : Flat). x.events) (sym (get_or-map bare hs has.0 f.header f (omega (arith, has.1, length-map hs bare))) ∙ has.2) in
        get_or-replicate (length sizes) f.header.group none [] there ∙ events),
    refl,
  )
