use Rattle.gr_report.proofs.fault_text.put_text.Goals as goal

pub returns-in-SameGroup : goal.returns-in-SameGroup
returns-in-SameGroup g c = rw c.in-SameGroup.is c.put_line.ensures

pub returns-in-OtherLaunch : goal.returns-in-OtherLaunch
returns-in-OtherLaunch g c = rw c.in-OtherLaunch.is c.put_line-in-OtherLaunch.ensures
