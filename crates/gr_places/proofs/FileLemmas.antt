-- Answers about open files, or why there is none.
use Rattle.gr_model.proofs.Common.{◌≡◌, ℕ, List, Option, Result, Ok, Err, inl, inr, map, refl, IfSome}
use Rattle.gr_record.proofs.Outside.{at_known}
use Rattle.gr_record.specs.Prelude.{IsOutside}
use Rattle.gr_places.specs.SideLines.{BufferSaid, PlaceSaid, Refuses, buffers_in, places_in}
use Rattle.gr_places.specs.Types.{Fault, SidesFault, Buffers, Places, Run}
use Rattle.gr_replay.specs.Each.{all_known}
use Rattle.gr_places.specs.Opening.{AreAllOpened, HoldsOfAllFiles, IsSidesFault, Pair, known_of}
use Rattle.gr_places.specs.Sides.{SidesSaid}
use Rattle.gr_places.specs.Files.{IsShowFault}

module _ {T E : Type 0} (remaining : T → Option (List ℕ)) (Gives : List ℕ → Result T E → Type 0) (named : Pair (List ℕ)) (names : List (List ℕ)) (sides : Pair T) (files : List T) (opened : AreAllOpened Gives named names sides files) where
  pub unread : (f : Fault) → IsOutside f → IsSidesFault remaining Gives named names (Run f)
  unread f outside = inr (inl (record { sides = sides; files = files; opened = opened; holds = outside }))

  pub places_refused : (bytes : List ℕ) → IfSome (known_of remaining sides.places) (λ known. bytes ≡ known) → (f : SidesFault) → Refuses Places (places_in bytes) f → IsSidesFault remaining Gives named names f
  places_refused bytes read f (inl memory) = rw memory (inl (inl refl))
  places_refused bytes read f (inr bad) =
      rw bad.1 (record { sides = sides; files = files; opened = opened; holds = at_known (known_of remaining sides.places) bytes (λ known. places_in known ≡ Err bad.0) read bad.2 })

  module _ (place_bytes : List ℕ) (places_read : IfSome (known_of remaining sides.places) (λ bytes. place_bytes ≡ bytes)) (places : List PlaceSaid) (places_said : places_in place_bytes ≡ Ok places) (buffer_bytes : List ℕ) (buffers_read : IfSome (known_of remaining sides.buffers) (λ bytes. buffer_bytes ≡ bytes)) where
    pub buffers_refused : (f : SidesFault) → Refuses Buffers (buffers_in buffer_bytes) f → IsSidesFault remaining Gives named names f
    buffers_refused f (inl memory) = rw memory (inl (inl refl))
    buffers_refused f (inr bad) =
        let in_form = at_known (known_of remaining sides.places) place_bytes (λ bytes. (said : List PlaceSaid) × (places_in bytes ≡ Ok said)) places_read (places, places_said) in
        let refused = at_known (known_of remaining sides.buffers) buffer_bytes (λ bytes. buffers_in bytes ≡ Err bad.0) buffers_read bad.2 in
        rw bad.1 (record { sides = sides; files = files; opened = opened; holds = (in_form, refused) })

    module _ (buffers : List BufferSaid) (buffers_said : buffers_in buffer_bytes ≡ Ok buffers) where
      abbrev all_said : SidesSaid
      all_said = record { places = places; buffers = buffers }

      pub holds_of_all : (Holds : Option (List (List ℕ)) → SidesSaid → Type 0) → Holds (all_known (map remaining files)) all_said → HoldsOfAllFiles remaining Gives named names Holds
      holds_of_all Holds shown =
          let places_known = at_known (known_of remaining sides.places) place_bytes (λ bytes. places_in bytes ≡ Ok places) places_read places_said in
          let buffers_known = at_known (known_of remaining sides.buffers) buffer_bytes (λ bytes. buffers_in bytes ≡ Ok buffers) buffers_read buffers_said in
          record { sides = sides; files = files; opened = opened; said = all_said; say = record { places = places_known; buffers = buffers_known }; shown = shown }

      pub streams_refused : (f : Fault) → IfSome (all_known (map remaining files)) (λ inputs. IsShowFault inputs f) → IsSidesFault remaining Gives named names (Run f)
      streams_refused f fault = inr (inr (holds_of_all (λ known said. IfSome known (λ inputs. IsShowFault inputs f)) fault))
