-- The launch whose streams have come, or why there is none, which the sizes of its groups show.
use Rattle.gr_model.proofs.Common.{◌≡◌, ◌≢◌, ℕ, ◌<◌, List, [], ◌∷◌, ◌++◌, ◌==◌, length, get_or, slice_index, All, Contains, Some, refl, sym, ap, ◌∙◌, subst, arith, append-nil, eqb-true, get_or_from_slice_get, All-contains, Any-from_list_any, slice_get-get_or}
use Rattle.gr_intake.specs.Types.{Event, Fault, Header}
use Rattle.gr_model.specs.Prelude.{IsShape, AreAccepted, IsAccepted, Streams, list_of, size_of}
use Rattle.gr_intake.specs.Intakes.{AreSeen, IsGap, come, come_of, headers_of}
use Rattle.gr_intake.specs.Joined.{Flat, headers_in}
use Rattle.gr_intake.specs.Laws.{AreStreams}
use Rattle.gr_intake.specs.Launch.{HasGroup, IsLaunchFault, IsLaunchOf, IsLeastMissing}
use Rattle.gr_intake.specs.Waiting.{Coming}
use Rattle.gr_intake.proofs.Mapped.{mapped_from, mapped_there}
use Rattle.gr_intake.proofs.Seen.{group_came}

-- ---- sizes

-- no group below a place is without items
abbrev pub AreSomeBelow : List ℕ → ℕ → Type 0
AreSomeBelow sizes n = (k : ℕ) → k < n → slice_index sizes k ≢ 0

-- ---- streams and their headers

-- the headers are those of the streams as they have come
pub headers_of_come : (s : Streams) (cs : List Coming) → headers_in (come s cs) ≡ headers_of cs
headers_of_come s [] = refl
headers_of_come s (c ∷ cs) = ap (λ hs. c.header ∷ hs) (headers_of_come s cs)

-- ---- a launch of streams

module _ (s : Streams) (fs : List Flat) (seen : AreSeen s.sizes (headers_in fs)) where
  -- a group that has items is that of a stream
  has_stream : (g : ℕ) → g < length s.sizes → size_of s g ≢ 0 → HasGroup fs g
  has_stream g lt some =
      let (k, h, there, is, test) = Any-from_list_any (λ (h : Header). h.group == g) (headers_in fs) ((group_came s.sizes (headers_in fs) seen g).1 (lt, omega (arith, some))) in
      let (f, in_fs, same) = mapped_from (λ f. f.header) fs h (k, there, is) in
      (f, in_fs, ap (λ (h : Header). h.group) same ∙ eqb-true h.group g test)

  -- the group of a stream is there, and has its items
  pub its_group : (f : Flat) → Contains fs f → (f.header.group < length s.sizes) × (size_of s f.header.group ≡ f.header.items) × (0 < f.header.items)
  its_group f has =
      let in_headers = mapped_there (λ f. f.header) fs f has in
      let there = seen.groups.there f.header in_headers in
      (there.0, there.1, All-contains (λ h. 0 < h.items) (headers_in fs) f.header seen.some in_headers)

  -- the least group without items, below another that has some, is one that no stream is of
  pub missing : (g : ℕ) → g < length s.sizes → size_of s g ≡ 0 → AreSomeBelow s.sizes g → IsLeastMissing fs g
  missing g lt none some =
      let top = seen.groups.top g lt in
      let (f, in_fs, same) = mapped_from (λ f. f.header) fs top.0 top.1 in
      let at = its_group f in_fs in
      let apart : g ≢ f.header.group = λ is. omega (arith, ap (size_of s) is, none, at.1, at.2) in
      record {
        below = (f, in_fs, omega (arith, top.2, ap (λ (h : Header). h.group) same, apart));
        missing = λ has. let at = its_group has.0 has.1 in omega (arith, ap (size_of s) has.2, none, at.1, at.2);
        least = λ k below. has_stream k (omega (arith, lt, below)) (some k below);
      }

  module _ (count : length s.lists ≡ length s.sizes) where
    -- where no group is missing, and each stream has come as its group's list
    pub launch_is : AreSomeBelow s.sizes (length s.sizes) → ((f : Flat) → Contains fs f → list_of s f.header.group ≡ f.events) → IsLaunchOf fs s
    launch_is some list = record {
      count = count;
      there = λ g lt. has_stream g lt (some g lt);
      each = λ f has.
          let group = its_group f has in (
            slice_get-get_or s.sizes f.header.group 0 group.0 ∙ ap Some group.1,
            slice_get-get_or s.lists f.header.group [] (omega (arith, group.0, count)) ∙ ap Some (list f has),
          );
    }

    -- where there are no groups, there are no streams
    launch_of_none : length s.sizes ≡ 0 → IsLaunchOf fs s
    launch_of_none none = launch_is (λ g lt. absurd (omega (arith, none, lt))) (λ f has. absurd (omega (arith, none, (its_group f has).0)))

    -- why the sizes are those of no launch is why the streams are none
    pub gap_is_launch_fault : (f : Fault) → IsGap s.sizes f → IsLaunchFault fs f
    gap_is_launch_fault f gap = grind (arith, launch_of_none, missing)

-- ---- the launch

-- a stream without records that wait has come as its group's list
all_taken : (s : Streams) (cs : List Coming) → All (λ c. c.waiting ≡ []) cs → (f : Flat) → Contains (come s cs) f → list_of s f.header.group ≡ f.events
all_taken s cs none f has =
    let of = mapped_from (come_of s) cs f has in
    let list = list_of s of.0.header.group in
    let waiting = All-contains (λ (c : Coming). c.waiting ≡ []) cs of.0 none of.1 in
    subst (λ (x : Flat). list_of s x.header.group ≡ x.events) of.2 (sym (ap (λ (w : List Event). list ++ w) waiting ∙ append-nil list))

-- the model accepts the lists of a launch of a shape
pub launch_accepts : (seen : List Flat) (s : Streams) → AreStreams seen → IsLaunchOf seen s → IsShape s.sizes → AreAccepted s
launch_accepts seen s are launch shape = record {
  shape = shape;
  count = launch.count;
  each = λ g lt.
      let has = launch.there g lt in
      let f = has.0 in
      let at = launch.each f has.1 in
      let size : slice_index s.sizes f.header.group ≡ f.header.items = get_or_from_slice_get s.sizes f.header.group f.header.items 0 at.0 in
      let list : get_or s.lists f.header.group [] ≡ f.events = get_or_from_slice_get s.lists f.header.group f.events [] at.1 in
      let accepted : IsAccepted f.header.items f.events = All-contains (λ x. IsAccepted x.header.items x.events) seen f are.accepted has.1 in
      subst (λ n. IsAccepted (slice_index s.sizes n) (get_or s.lists n [])) has.2
      (subst (IsAccepted (slice_index s.sizes f.header.group)) (sym list) (subst (λ n. IsAccepted n f.events) (sym size) accepted));
}

-- the streams that have come are a launch where all that waited of them was taken, and its lists are accepted
pub launch_taken : (s t : Streams) (cs ds : List Coming) → come t ds ≡ come s cs → t.sizes ≡ s.sizes → length t.lists ≡ length t.sizes → AreSeen s.sizes (headers_in (come s cs)) → AreStreams (come s cs) → All (λ c. c.waiting ≡ []) ds → IsShape s.sizes → IsLaunchOf (come s cs) t × AreAccepted t
launch_taken s t cs ds same sizes count seen are none shape =
    let good : IsShape t.sizes = rw sizes shape in
    let launch = launch_is t (come t ds) (rw (sizes, same) seen) count (λ g lt. let size = good.each g 0 lt in λ no_items. omega (arith, size.0, no_items)) (all_taken t ds none) in
    let is : IsLaunchOf (come s cs) t = subst (λ fs. IsLaunchOf fs t) same launch in
    (is, launch_accepts (come s cs) t are is good)
