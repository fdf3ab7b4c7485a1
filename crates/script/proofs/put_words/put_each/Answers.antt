use Rattle.std.proofs.lemmas.Result.{on_ok_weaker}
use Rattle.script.specs.PlanText.{word_text}
use Rattle.script.proofs.PutLemmas.{joined_put}
use Rattle.script.proofs.put_words.put_each.Goals as goal

pub returns-clause-ok : goal.returns-clause-ok
returns-clause-ok c =
    on_ok_weaker c.put_behind.result (λ put. joined_put 32 word_text c.args.out.now c.put_word.new.out c.put_behind.new.out (word_text c.args.first) c.args.more.now c.in_ok-put_word.ensures.ok put) c.put_behind.ensures.ok
