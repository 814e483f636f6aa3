use Rattle.gr_model.proofs.Common.{◌≡◌, ◌∙◌, ◌<◌, ◌%◌, ◌++◌, ◌∷◌, ℕ, List, [], rules, arith, refl, ap, length, get_or, mod-lt, subst, map-set_same, length-append, length-set, take_all, All-set}
use Rattle.gr_model.specs.declared.limits.TheConstants.{MOST_GROUPS, MOST_RECORDS}
use Rattle.gr_clocks.proofs.RowLemmas.{each_push}
use Rattle.gr_route.specs.IntakeSeats.{Taker}
use Rattle.gr_route.proofs.Sizes.{each_has_place, none_has_size}
use Rattle.gr_sequencer_thread.specs.Feeds.{AreSeated, intakes_of}
use Rattle.gr_detector.specs.Runs.{IsSenderOf}
use Rattle.gr_detector.proofs.SetupLemmas.{first, queue_at, seat_more, seating}
use Rattle.gr_detector.proofs.setup.senders_of.Goals as goal

pub loop-group-init : goal.loop-group-init
loop-group-init g c = record {
  intakes = refl;
  queues = c.requires.count;
  each = λ q d lt. let fresh = c.requires.fresh q d lt in (fresh.0, ap length fresh.1 ∙ each_has_place);
  seated = λ q h d lt. grind (arith, c.requires.fresh q d (omega (arith, lt, c.requires.count)), none_has_size h);
  count = ap length c.new-senders.ensures.items;
  senders = λ h d lt. absurd (omega (arith, lt));
}

pub loop-group-preserved : goal.loop-group-preserved
loop-group-preserved g c =
    let inv = c.loop-group.invariant in
    let config = c.args.config in
    let n = c.loop-group.group in
    let sizes = c.args.shape.now in
    let init = c.args.inlets.now.items in
    let inlets = c.loop-group.inlets.items in
    let senders = c.loop-group.senders.items in
    let t = c.index_mut.result.now in
    let s = c.in_ok-sender.field-0 in
    let q = c.from-queue.result in
    let place : q ≡ n % config.queues = grind (arith, c.from-queue.ensures, c.queue_of.ensures, c.queues.ensures.number) in
    let below : q < config.queues = rw place (mod-lt n c.queues.ensures.config.queues.0) in
    let there : q < length inlets = omega (arith, below, inv.queues) in
    let is : t ≡ get_or inlets q t = c.index_mut.ensures.value in
    let few : n < MOST_GROUPS = omega (arith, c.loop-group-test.true, c.groups-group-end.ensures.count, c.groups-group-end.ensures.shape.groups) in
    let own : (t.popped ≡ []) × (length t.sizes ≡ MOST_GROUPS) = rw is (inv.each q t there) in
    let made : c.sender.new.self ≡ seating t n (get_or sizes n 0) = (let raw : c.sender.new.self ≡ seating t n c.items.result = search rules in raw) ∙ ap (seating t n) c.items.ensures.size in
    let pushed : c.push.new.self.items ≡ senders ++ s ∷ [] = c.in_ok-push.ensures.items in
    let made_sender : s ≡ record { queue = s.queue; group = n; items = c.items.result; records = MOST_RECORDS; sent = [] } = search rules in
    let queue : s.queue.queue ≡ t.queue = search rules in
    record {
      intakes = map-set_same (λ (u : Taker). u.queue) inlets q c.sender.new.self t (ap (λ (u : Taker). u.queue) made ∙ ap (λ (u : Taker). u.queue) is) ∙ inv.intakes;
      queues = length-set inlets q c.sender.new.self ∙ inv.queues;
      each = rw made (All-set (λ (u : Taker). (u.popped ≡ []) × (length u.sizes ≡ MOST_GROUPS)) inlets q (seating t n (get_or sizes n 0)) (own.0, length-set t.sizes n (get_or sizes n 0) ∙ own.1) inv.each);
      seated = rw made (seat_more config sizes n inlets q place t is below inv.seated there (omega (arith, few, own.1)));
      count = omega (arith, ap length pushed, length-append senders (s ∷ []), inv.count);
      senders = λ h d lt.
          let here = queue_at inlets (intakes_of init) q t inv.intakes there in
          let last : IsSenderOf (record { config = config; sizes = sizes; intakes = intakes_of init }) n s = grind (arith, made_sender, c.items.ensures.size, here, is, queue, place, c.loop-group-test.true, c.groups-group-end.ensures.count) in
          each_push (IsSenderOf (record { config = config; sizes = sizes; intakes = intakes_of init })) d senders c.push.new.self.items s n inv.count (λ k. inv.senders k d) last pushed h lt;
    }

pub index_mut-requires : goal.index_mut-requires
index_mut-requires g c =
    let inlets = c.loop-group.inlets in
    let len : length inlets.items ≡ inlets.len = search rules in
    let place : c.from-queue.result ≡ c.loop-group.group % c.args.config.queues = grind (arith, c.from-queue.ensures, c.queue_of.ensures, c.queues.ensures.number) in
    let below : c.from-queue.result < c.args.config.queues = rw place (mod-lt c.loop-group.group c.queues.ensures.config.queues.0) in
    omega (arith, below, c.loop-group.invariant.queues, len)

pub sender-requires-clause-first : goal.sender-requires-clause-first
sender-requires-clause-first g c =
    let n = c.loop-group.group in
    let place : c.from-queue.result ≡ n % c.args.config.queues = grind (arith, c.from-queue.ensures, c.queue_of.ensures, c.queues.ensures.number) in
    let below : c.from-queue.result < c.args.config.queues = rw place (mod-lt n c.queues.ensures.config.queues.0) in
    first c.args.config c.args.shape.now n c.loop-group.inlets.items c.from-queue.result place c.index_mut.result.now c.index_mut.ensures.value below c.loop-group.invariant.seated

pub returns-clause-unpopped : goal.returns-clause-unpopped
returns-clause-unpopped g c = λ q d lt. (c.loop-group.invariant.each q d lt).0

pub returns-clause-seated : goal.returns-clause-seated
returns-clause-seated g c =
    subst (λ (l : List ℕ). AreSeated c.args.config l c.loop-group.inlets.items)
    (take_all c.loop-group.group c.args.shape.now (omega (arith, c.loop-group-test.false, c.groups-group-end.ensures.count)))
    c.loop-group.invariant.seated

pub returns-clause-senders : goal.returns-clause-senders
returns-clause-senders g c = record {
  count = omega (arith, c.loop-group.invariant.count, c.loop-group-test.false, c.groups-group-end.ensures.count);
  each = λ h d lt. c.loop-group.invariant.senders h d (omega (arith, lt, c.loop-group-test.false, c.groups-group-end.ensures.count));
}
