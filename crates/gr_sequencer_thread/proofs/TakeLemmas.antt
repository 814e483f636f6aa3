-- What was popped may come, and in the end all that was popped was taken.
use Rattle.gr_model.proofs.Common.{◌≡◌, ◌≢◌, ◌==◌, Bool, false, ℕ, ◌<◌, ◌%◌, List, [], ◌∷◌, ◌++◌, length, get_or, set, cond, get_or-set_other, refl, sym, ap, ◌∙◌, subst, ⊎_elim, arith, append_assoc, append-nil, length-append, All, get_or-eq_default, cases_eq, get_or-map, get_or_default, length-map, length-set, nat_tests, get_or-set_at}
use Rattle.gr_model.specs.declared.event.Event.{Event}
use Rattle.gr_model.specs.Prelude.{Settings, IsPrefix, Streams, events_of, list_of, size_of}
use Rattle.gr_model.proofs.Sending.{events_append}
use Rattle.gr_clocks.specs.ClockedAccess.{ClockedAccess}
use Rattle.gr_order.specs.Sequences.{Sequence}
use Rattle.gr_route.specs.Batches.{sent_by}
use Rattle.gr_route.specs.IntakeSeats.{IsDelivery, Taker, popped_of}
use Rattle.gr_route.proofs.BatchLemmas.{sent_else, sent_here}
use Rattle.gr_taking.specs.Sources.{ListedRecords, MayCome, come_of}
use Rattle.gr_sequencer_thread.specs.Feeds.{ArePopped, AreSeated, AreTaken, Feed, IsFeed, IsGood, come_in}
use Rattle.gr_clocks.proofs.RowLemmas.{each_set}

-- the seat after events of a group were popped
abbrev pub popping : Taker → ℕ → List Event → Taker
popping t n es = record { queue = t.queue; popped = t.popped ++ sent_by n es; sizes = t.sizes; joined = t.joined }

-- the backlog, once it has these events more
abbrev pub with_more : ListedRecords → List Event → ListedRecords
with_more b es = record { group = b.group; records = b.records ++ es }

-- of a group, what was taken of it, followed by what is still to be taken
abbrev pub come_one : Streams → ListedRecords → ℕ × List Event
come_one taken b = come_of (λ c. c.group) (λ g. g) (λ c. c.records) taken b

-- ---- events of a group are popped

module _ (config : Settings) (sizes : List ℕ) (takers : List Taker) (seated : AreSeated config sizes takers) (q : ℕ) (t : Taker) (at : t ≡ get_or takers q t) (there : q < config.queues) (queues : length takers ≡ config.queues) (n : ℕ) (es : List Event) (some : 0 < length es) (delivery : IsDelivery (popping t n es)) where
  within : q < length takers
  within = omega (arith, there, queues)

  has_seat : get_or t.sizes n 0 ≢ 0
  has_seat none = absurd (grind (arith, some, delivery.unseated n none, events_append n t.popped (sent_by n es), sent_here n es, length-append (popped_of t n) es))

  seat_is : (n % config.queues ≡ q) × (get_or t.sizes n 0 ≡ get_or sizes n 0)
  seat_is = grind (arith, nat_tests, at, seated q n t there, has_seat)

  pub group_there : n < length sizes
  group_there = grind (arith, seat_is, has_seat, get_or-eq_default sizes 0 {n = n})

  -- what was popped of each group: these events more, if they are of the group
  popped_now : (h : ℕ) (d : Taker) → popped_of (get_or (set takers q (popping t n es)) (h % config.queues) d) h ≡ popped_of (get_or takers (h % config.queues) d) h ++ events_of h (sent_by n es)
  popped_now h d = each_set (λ p u. p ≡ h % config.queues → popped_of u h ≡ popped_of (get_or takers p d) h ++ events_of h (sent_by n es)) d takers q (popping t n es) within
      (λ _. events_append h t.popped (sent_by n es) ∙ ap (λ (u : Taker). popped_of u h ++ events_of h (sent_by n es)) (at ∙ get_or_default takers q t d within))
      (h % config.queues)
      (λ apart mine. grind (arith, seat_is, sent_else h n es, append-nil (popped_of (get_or takers (h % config.queues) d) h)))
      refl

  -- the events join those that are to be taken
  module _ (taken : Streams) (same : taken.sizes ≡ sizes) (coming : List ListedRecords) (are : ArePopped config taken coming takers) (b : ListedRecords) (mine : b ≡ get_or coming n b) where
    there_now : n < length coming
    there_now = omega (arith, are.count, ap length same, group_there)

    pub still_popped : ArePopped config taken (set coming n (with_more b es)) (set takers q (popping t n es))
    still_popped = record {
      count = length-set coming n (with_more b es) ∙ are.count;
      each = λ g f d lt.
          let here = get_or-map (come_one taken) coming g b f in
          let now = get_or-map (come_one taken) (set coming n (with_more b es)) g b f in
          grind (arith, here, now, are.each g f d lt, are.count, length-set coming n (with_more b es), get_or-set_at, get_or-set_other coming n g (with_more b es) b, mine, popped_now g d, sent_here n es, sent_else g n es, append_assoc (list_of taken b.group) b.records es, append-nil (popped_of (get_or takers (g % config.queues) d) g));
      prefixes = λ g d lt. ⊎_elim
          (λ (own : g ≡ n).
          let size : get_or t.sizes n 0 ≡ size_of taken n = grind (arith, seat_is, same) in
          let popped : popped_of (popping t n es) n ≡ popped_of (get_or (set takers q (popping t n es)) (n % config.queues) d) n = grind (arith, seat_is, get_or-set_at) in
          rw own (subst (λ (y : ℕ × List Event). IsPrefix y.0 y.1) (λ i. (size i, popped i)) (delivery.streams n)))
          (λ apart. subst (IsPrefix (size_of taken g)) (grind (arith, popped_now g d, sent_else g n es, append-nil (popped_of (get_or takers (g % config.queues) d) g))) (are.prefixes g d lt))
          (cases_eq g n);
    }

  pub still_seated : AreSeated config sizes (set takers q (popping t n es))
  still_seated p g d lt = each_set (λ k u. get_or u.sizes g 0 ≡ cond (g % config.queues == k) (get_or sizes g 0) 0) d takers q (popping t n es) within (grind (arith, at, seated q g t there)) p (λ _. seated p g d lt)

-- the state after they were popped
pub popped_feed : {A : Type 0} (f : Feed A) → IsFeed f → (q : ℕ) (t u : Taker) (n : ℕ) (es : List Event) (coming : List ListedRecords) (failed : Bool)
    → t ≡ get_or f.takers q t → q < length f.takers → 0 < length es → u ≡ popping t n es → IsDelivery u → length coming ≡ length f.coming
    → (failed ≡ false → (f.failed ≡ false) × ((b : ListedRecords) → b ≡ get_or f.coming n b → coming ≡ set f.coming n (with_more b es)))
    → IsFeed (record f { takers = set f.takers q u; coming = coming; failed = failed })
popped_feed f is q t u n es coming failed at lt some now delivered count noted =
    let delivery = subst IsDelivery now delivered in
    let there : q < f.config.queues = omega (arith, lt, is.queues) in
    let within = group_there f.config f.sizes f.takers is.seated q t at there is.queues n es some delivery in
    let b : ListedRecords = get_or f.coming n (record { group = 0; records = [] }) in
    let mine : b ≡ get_or f.coming n b = get_or_default f.coming n (record { group = 0; records = [] }) b (omega (arith, within, is.backlogs)) in
    rw now (record {
      config = is.config;
      queues = length-set f.takers q (popping t n es) ∙ is.queues;
      worker_count = is.worker_count;
      backlogs = count ∙ is.backlogs;
      seated = still_seated f.config f.sizes f.takers is.seated q t at there is.queues n es some delivery;
      unstopped = is.unstopped;
      good = λ still.
          let was = is.good (noted still).0 in
          let popped = still_popped f.config f.sizes f.takers is.seated q t at there is.queues n es some delivery f.sequence.taken was.same f.coming was.popped b mine in
          record { same = was.same; sequence = was.sequence; popped = rw ((noted still).1 b mine) popped; passed = was.passed };
    })

-- ---- the groups take turns

module _ (config : Settings) (taken : Streams) (coming : List ListedRecords) (takers : List Taker) (are : ArePopped config taken coming takers) where
  in_sizes : (g : ℕ) → g < length (come_in taken coming) → g < length taken.sizes
  in_sizes g lt = omega (arith, lt, length-map coming (come_one taken), are.count)

  -- what was popped of a group may come
  pub may_come_now : length takers ≡ config.queues → 0 < config.queues → MayCome (λ g. g) taken.sizes (come_in taken coming)
  may_come_now queues some =
      let d = a_taker takers (omega (arith, queues, some)) in
      record {
        there = λ g f lt. rw (are.each g f d (in_sizes g lt)) (in_sizes g lt);
        prefixes = λ g f lt. rw (are.each g f d (in_sizes g lt)) (are.prefixes g d (in_sizes g lt));
        differ = λ i j f lt there. grind (arith, are.each i f d (in_sizes i (omega (arith, lt, there))), are.each j f d (in_sizes j there));
      }
    where
      a_taker : (ts : List Taker) → 0 < length ts → Taker
      a_taker [] none = absurd (omega (arith, none))
      a_taker (t ∷ ts) there = t

  -- some of it was taken
  pub popped_moves : (new : Streams) (left : List ListedRecords) → come_in new left ≡ come_in taken coming → new.sizes ≡ taken.sizes → ArePopped config new left takers
  popped_moves new left same sizes = record {
    count = grind (arith, are.count, sizes, ap length same, length-map left (come_one new), length-map coming (come_one taken));
    each = λ g f d lt. rw same (are.each g f d (rw (sym sizes) lt));
    prefixes = λ g d lt. rw sizes (are.prefixes g d (rw (sym sizes) lt));
  }

  -- all of it was taken
  pub all_taken : All (λ b. b.records ≡ []) coming → AreTaken config taken takers
  all_taken none g d lt =
      let b : ListedRecords = record { group = 0; records = [] } in
      let come = get_or-map (come_one taken) coming g b (0, []) (omega (arith, lt, are.count)) in
      grind (arith, come, are.each g (0, []) d lt, are.count, none g b, append-nil (list_of taken (get_or coming g b).group))

-- the state after some of what was popped was taken
pub taken_feed : {A : Type 0} (f : Feed A) → IsFeed f → (sequence : Sequence) (coming : List ListedRecords) (on_way : List (List ClockedAccess)) (failed : Bool) → length coming ≡ length f.coming → (failed ≡ false → IsGood (record f { sequence = sequence; coming = coming; on_way = on_way; failed = failed }))
    → IsFeed (record f { sequence = sequence; coming = coming; on_way = on_way; failed = failed })
taken_feed f is sequence coming on_way failed count good = assumption (count ∙ is.backlogs)
