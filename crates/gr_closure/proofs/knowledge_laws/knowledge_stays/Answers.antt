use Rattle.gr_closure.proofs.KnowledgeGrowth.{knowledge_stays, seen_stays}
use Rattle.gr_closure.proofs.knowledge_laws.knowledge_stays.Goals as goal

pub returns-clause-known : goal.returns-clause-known
returns-clause-known c s t m order i d grows lawful = knowledge_stays s t m order grows lawful i d

pub returns-clause-seen : goal.returns-clause-seen
returns-clause-seen c s t m order e d grows lawful h = seen_stays s t m order grows lawful e d h
