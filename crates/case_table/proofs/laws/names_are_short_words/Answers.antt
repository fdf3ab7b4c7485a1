use Rattle.std.proofs.lemmas.List.Sums.{AllPass-from_list_all}
use Rattle.case_table.specs.CacheName.{is_name_byte}
use Rattle.case_table.proofs.CacheNameLemmas.{named, some_letter, name_byte}
use Rattle.case_table.proofs.laws.names_are_short_words.Goals as goal

pub returns-clause-some : goal.returns-clause-some
returns-clause-some c = λ name h. some_letter name (named name h).letter

pub returns-clause-short : goal.returns-clause-short
returns-clause-short c = λ name h. (named name h).short

pub returns-clause-word : goal.returns-clause-word
returns-clause-word c = λ name h k d lt. name_byte _ (AllPass-from_list_all is_name_byte name (named name h).bytes k d lt)
