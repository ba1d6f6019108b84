-- What is promised, whole. The three demands are one statement, over the table of words that texts are read and printed with: they hold for
-- every good one. It has two instances: the built-in words, which the plain entries have; and the own words of every accepted words text,
-- which the twins have [16.7]. Entries that read and print no words stand under both, and what holds of the mixings and the lanes of any loops
-- stands beside them.
-- Definitions only; `Theorems` has the proof.
use Rattle.std.specs.Prelude.{List, ℕ}
use Rattle.words.specs.Good.{Good}
use Rattle.words.specs.Words.{words}
use Rattle.own_words.specs.OwnWords.{own_words}
use Rattle.typing.specs.Questions.{AllYes}
use Rattle.guarantees.specs.Questions.{words_questions}
use Rattle.guarantees.specs.Demand1.{Demand1}
use Rattle.guarantees.specs.Demand2.{Demand2}
use Rattle.guarantees.specs.Demand3.{Demand3}
use Rattle.guarantees.specs.Mixings.{Mixings}
use Rattle.guarantees.specs.Lanes.{LanesAsPar}
use Rattle.guarantees.specs.Twins.{Twins}

abbrev pub DemandsFor : List (List ℕ) → Type 0
DemandsFor ws = Demand1 ws × Demand2 ws × Demand3 ws

pub record Demands : Type 0 where
  pub for_good_words : (ws : List (List ℕ)) → Good ws → DemandsFor ws
  pub built_in : DemandsFor words
  pub own : (w : List ℕ) → AllYes (words_questions w) → DemandsFor (own_words w)
  pub twins : (w : List ℕ) → Twins w
  pub mixings : Mixings
  pub lanes : LanesAsPar
