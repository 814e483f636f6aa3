use Rattle.gr_model.proofs.Common.{◌≡◌, ◌≢◌, ◌∙◌, ◌+◌, ◌++◌, ◌∷◌, [], List, Option, Some, Result, append-nil, append_assoc, ap, arith, length, map, rules, subst, sym, IfSome, length-map, length_push, map_push, nil_from_length}
use Rattle.std.proofs.lemmas.Slice.Zip.{AllZip-long}
use Rattle.gr_streams.specs.Types.{Event, Fault}
use Rattle.gr_record.specs.declared.fault.Fault.TheVariants as faults
use Rattle.gr_route.specs.IntakeSeats.{Seat}
use Rattle.gr_streams.specs.Records.{and_one, events_at, lists_of}
use Rattle.gr_streams.specs.Sending.{Tells}
use Rattle.gr_streams.specs.Sources.{AreLeft, Begun, IsEndOf}
use Rattle.gr_streams.proofs.JoinLemmas.{lists_more, one_end, one_input, placed_prefix}
use Rattle.gr_streams.proofs.joins.keep_each.Goals as goal

-- what the streams left so far, and what one more leaves, whose fault is `next`
module _ (bs : List Begun) (b : Begun) (rs : List Seat) (r : Seat) (first next both : Option Fault) (left : AreLeft bs rs first) (end : IsEndOf b r next) where
  module _ (tells : (lists : Result (List (List Event)) Fault) (list : Result (List Event) Fault) (pushed : List (List Event)) (more : List Event) → Tells lists pushed first → Tells list more next → Tells (and_one lists list) (pushed ++ more ∷ []) both) where
    left_next : IfSome both (λ f. f ≢ faults.Write) → AreLeft (bs ++ b ∷ []) (rs ++ r ∷ []) both
    left_next write = record {
      receipts = record {
        groups = map_push (λ (x : Seat). x.group) rs r ∙ (ap (λ l. l ++ r.group ∷ []) left.receipts.groups ∙ (ap (λ n. map (λ (x : Begun). x.sender.group) bs ++ n ∷ []) end.group ∙ sym (map_push (λ (x : Begun). x.sender.group) bs b)));
        queues = map_push (λ (x : Seat). x.queue) rs r ∙ (ap (λ l. l ++ r.queue ∷ []) left.receipts.queues ∙ (ap (λ n. map (λ (x : Begun). x.sender.queue.queue) bs ++ n ∷ []) end.queue ∙ sym (map_push (λ (x : Begun). x.sender.queue.queue) bs b)));
      };
      write = write;
      tells = λ inputs read.
          let placed = placed_prefix bs b read.0 in
          let one = one_input (map (λ (x : Begun). x.bytes) bs) b.bytes inputs (sym (map_push (λ (x : Begun). x.bytes) bs b) ∙ read.1) in
          let xs = one.0 in
          let x = one.1 in
          let at : b.place ≡ 0 + length xs = omega (arith, placed.1, length-map bs (λ (y : Begun). y.bytes), ap length one.3, length-map xs (λ l. Some l)) in
          let told = rw one.4 at end.tells in
          let here = subst (λ n. Tells (events_at n x) r.pushed next) at told in
          rw (one.2, lists_more [] xs x, map_push (λ (y : Seat). y.pushed) rs r)
          (tells (lists_of xs) (events_at (0 + length xs) x) (map (λ (y : Seat). y.pushed) rs) r.pushed (left.tells xs (placed.0, one.3)) here);
    }

pub loop-stream-init : goal.loop-stream-init
loop-stream-init g c = record {
  left = search rules;
  joined = λ before begun are left. subst (λ l. AreLeft l c.args.receipts.now.items c.args.fault) (sym (append-nil before) ∙ ap (λ l. before ++ l) (sym (nil_from_length begun (sym (AllZip-long (λ b e. IsEndOf b e.receipt e.fault) begun [] are))))) left;
  count = omega arith;
  room = search rules;
  capacity = search rules;
}

pub loop-stream-preserved : goal.loop-stream-preserved
loop-stream-preserved g c =
    let inv = c.loop-stream.invariant in
    let e = c.in-Some.stream in
    let items = c.in-Some.ensures.steps.0 in
    let yielded = c.loop-stream.yielded in
    let old = c.loop-stream.receipts.items in
    let first = c.first_of-first.ensures in
    record {
      left = rw (append_assoc, ← items) inv.left;
      joined = λ before begun are left.
          let one = one_end begun yielded e are in
          let were = inv.joined before one.0 one.3 left in
          rw (c.push_reserved.ensures.items, one.2, ← append_assoc before one.0 (one.1 ∷ []))
          (left_next (before ++ one.0) one.1 old e.receipt c.loop-stream.first e.fault c.first_of-first.result were one.4 first.tells (first.write were.write one.4.write));
      count = omega (arith, inv.count, length_push yielded e, c.push_reserved.ensures.len);
      room = omega (arith, inv.room, c.in-Some.ensures.steps.1, c.push_reserved.ensures.len, c.push_reserved.ensures.capacity);
      capacity = c.push_reserved.ensures.capacity ∙ inv.capacity;
    }
