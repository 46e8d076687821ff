-- Each answer is the first test that failed, with its item.
use Rattle.rule_first.proofs.Breaking.{breaking}
use Rattle.rule_first.proofs.first_broken.Goals as goal

pub returns-then-not-lists : goal.returns-then-not-lists
returns-then-not-lists c = search breaking

pub returns-then-not-lists-2 : goal.returns-then-not-lists-2
returns-then-not-lists-2 c = search breaking

pub returns-then-not-same_count : goal.returns-then-not-same_count
returns-then-not-same_count c = search breaking

pub returns-then-not-lists-3 : goal.returns-then-not-lists-3
returns-then-not-lists-3 c = search breaking

pub returns-then-not-lists-4 : goal.returns-then-not-lists-4
returns-then-not-lists-4 c = search breaking

pub returns-then-not-lists-5 : goal.returns-then-not-lists-5
returns-then-not-lists-5 c = search breaking

pub returns-then-not-same_count-2 : goal.returns-then-not-same_count-2
returns-then-not-same_count-2 c = search breaking

pub returns-then-not-lists-6 : goal.returns-then-not-lists-6
returns-then-not-lists-6 c = search breaking

pub returns-then-not-lists-7 : goal.returns-then-not-lists-7
returns-then-not-lists-7 c = search breaking

pub returns : goal.returns
returns c = search breaking
