-- What reading a words text promises: [16.4] to [16.6]; and a search among its own words: [17.3]. Definitions only; assumes nothing.
use Rattle.std.specs.Prelude.{◌≡◌, List, ℕ, length, Result, Ok, Err}
use Rattle.refusals.specs.declared.Refusal.{Refusal}
use Rattle.words.specs.Promises.{LooksUp}
use Rattle.words.specs.Tables.{words_in}
use Rattle.words.specs.Words.{words}
use Rattle.words.specs.declared.Search.{Search}
use Rattle.own_words.specs.OwnWords.{ask_words, own_words}
use Rattle.own_words.specs.Under.{Under}

-- The answer to the text t: a table with the own words of one that is accepted, or the "no".
abbrev pub ReadsWords : List ℕ → Result (List (List ℕ)) Refusal → Type 0
ReadsWords t (Ok table) = (ask_words t ≡ Ok (length words)) × (words_in table ≡ own_words t)
ReadsWords t (Err q) = ask_words t ≡ Err q

-- `own_words::look_up_in`: the words text, the word and what is told
abbrev pub LooksUpIn : List ℕ → List ℕ → Result Search Refusal → Type 0
LooksUpIn w l r = Under w (λ ws. (s : Search) × (r ≡ Ok s) × LooksUp ws l s) (λ q. r ≡ Err q)
