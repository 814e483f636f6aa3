-- Bytes are the streams of one launch at most, and so are inputs.
use Rattle.gr_model.proofs.Common.{◌≡◌, ℕ, ◌<◌, ◌≤◌, List, [], length, get_or, Result, Ok, sym, ◌∙◌, subst, arith, inl, inr, ext_get_or, cases_lt, get_or_from_slice_get, slice_get_within}
use Rattle.gr_model.specs.Prelude.{IsReportOf, Streams}
use Rattle.gr_model.proofs.ReportLaws.{one_report}
use Rattle.gr_record.specs.declared.fault.Fault.{Fault}
use Rattle.gr_intake.specs.Joined.{Flat}
use Rattle.gr_intake.specs.Launch.{IsLaunchOf}
use Rattle.gr_intake.proofs.Faults.{same_ok}
use Rattle.gr_replay.specs.Laws.{BytesAreOneLaunch, BytesHaveOneReport, InputsAreOneLaunch, InputsHaveOneReport}

-- ---- streams are those of one launch

module _ (seen : List Flat) (s t : Streams) (is : IsLaunchOf seen s) (also : IsLaunchOf seen t) where
  -- a group of one is a group of the other
  within : (g : ℕ) → g < length s.sizes → g < length t.sizes
  within g lt = let has = is.there g lt in subst (λ n. n < length t.sizes) has.2 (slice_get_within t.sizes has.0.header.group has.0.header.items (also.each has.0 has.1).0)

  no_longer : length s.sizes ≤ length t.sizes
  no_longer =
      elim (cases_lt (length t.sizes) (length s.sizes)) [
        | inl longer ↦ let same = within (length t.sizes) longer in absurd (omega (arith, same))
        | inr le ↦ le
      ]

  same_size : (g : ℕ) → g < length s.sizes → get_or s.sizes g 0 ≡ get_or t.sizes g 0
  same_size g lt =
      let has = is.there g lt in
      let f = has.0 in
      subst (λ n. get_or s.sizes n 0 ≡ get_or t.sizes n 0) has.2
      (get_or_from_slice_get s.sizes f.header.group f.header.items 0 (is.each f has.1).0 ∙ sym (get_or_from_slice_get t.sizes f.header.group f.header.items 0 (also.each f has.1).0))

  same_list : (g : ℕ) → g < length s.lists → get_or s.lists g [] ≡ get_or t.lists g []
  same_list g lt =
      let has = is.there g (omega (arith, lt, is.count)) in
      let f = has.0 in
      subst (λ n. get_or s.lists n [] ≡ get_or t.lists n []) has.2
      (get_or_from_slice_get s.lists f.header.group f.events [] (is.each f has.1).1 ∙ sym (get_or_from_slice_get t.lists f.header.group f.events [] (also.each f has.1).1))

launch_is_one : (seen : List Flat) (s t : Streams) → IsLaunchOf seen s → IsLaunchOf seen t → s ≡ t
launch_is_one seen s t is also =
    let count : length s.sizes ≡ length t.sizes = omega (arith, no_longer seen s t is also, no_longer seen t s also is) in
    let sizes : s.sizes ≡ t.sizes = ext_get_or 0 s.sizes t.sizes count (same_size seen s t is also) in
    let lists : s.lists ≡ t.lists = ext_get_or [] s.lists t.lists (is.count ∙ (count ∙ sym also.count)) (same_list seen s t is also) in
    λ i. record { sizes = sizes i; lists = lists i }

-- ---- bytes and inputs

-- what is read is of this launch
abbrev pub IsReadAs : Result (List Flat) Fault → Streams → Type 0
IsReadAs r s = (seen : List Flat) × (r ≡ Ok seen) × IsLaunchOf seen s

one_launch : (r : Result (List Flat) Fault) (s t : Streams) → IsReadAs r s → IsReadAs r t → s ≡ t
one_launch r s t (seen, is, launch) (others, also, other) = launch_is_one seen s t launch (subst (λ x. IsLaunchOf x t) (same_ok {E = Fault} others seen (sym also ∙ is)) other)

pub bytes_are_one_launch : BytesAreOneLaunch
bytes_are_one_launch bytes s t a b = one_launch _ s t a b

pub inputs_are_one_launch : InputsAreOneLaunch
inputs_are_one_launch inputs s t a b = one_launch _ s t a b

pub bytes_have_one_report : BytesHaveOneReport
bytes_have_one_report bytes r q a b = one_report a.launch r q a.exact (subst (λ s. IsReportOf s q) (bytes_are_one_launch bytes b.launch a.launch b.spelled a.spelled) b.exact)

pub inputs_have_one_report : InputsHaveOneReport
inputs_have_one_report inputs r q a b = one_report a.launch r q a.exact (subst (λ s. IsReportOf s q) (inputs_are_one_launch inputs b.launch a.launch b.spelled a.spelled) b.exact)
