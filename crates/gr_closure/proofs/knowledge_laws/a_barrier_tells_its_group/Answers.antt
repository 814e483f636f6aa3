use Rattle.gr_closure.proofs.GroupKnowledge.{flagged_knows, met_sees, others_know_after_meet, unflagged_knows}
use Rattle.gr_closure.proofs.knowledge_laws.a_barrier_tells_its_group.Goals as goal

pub returns : goal.returns
returns c = record {
  sees = λ s m old new g k b d prefixes lawful met stands. met_sees s m old new g k prefixes lawful met b d stands;
  flagged = λ s m old new g k i d prefixes lawful met flagged group within. flagged_knows s m old new g k prefixes lawful met i d flagged group within;
  unflagged = λ s m old new g k b d prefixes lawful met apart stands. unflagged_knows s m old new g k prefixes lawful met b d apart stands;
  others = λ s m old new g k i d prefixes lawful met other. others_know_after_meet s m old new g k prefixes lawful met i d other;
}
