-- The search for a word: what its contracts say, by whether the table has the word. Assumes nothing.
use Rattle.std.specs.Prelude.{◌≡◌, refl, List, ℕ, ◌/◌, ◌%◌, ◌<◌, Option, Some, None}
use Rattle.std.proofs.Common.{sym, ap, ◌∙◌, arith}
use Rattle.words.specs.Promises.{LooksUp}
use Rattle.words.specs.Good.{Good}
use Rattle.words.proofs.Laws.{own_place, missed_word, compared_found, compared_missed, compared_few, words_count}
use Rattle.words.specs.Words.{look_up, compared}
use Rattle.words.specs.declared.Search.{Search}
use Rattle.vazhdumir.specs.Codes.{compared_code}
use Rattle.vazhdumir.specs.Promises.{LooksUpForC}
use Rattle.guarantees.specs.Demand1.{SearchTells, listed_bit, HalvesOf}

-- a number below 2^16 and the bit above it
halves : (f : Option ℕ) (n : ℕ) → n < 65536 → (compared_code f n % 65536 ≡ n) × (compared_code f n / 65536 ≡ listed_bit f)
halves (Some k) n h = (omega (arith, h), omega (arith, h))
halves None n h = (omega (arith, h), omega (arith, h))

-- ws is any good table of words.
module _ (ws : List (List ℕ)) (good : Good ws) where
  pub look_up_holds : (l : List ℕ) (s : Search) → LooksUp ws l s → SearchTells ws l s
  look_up_holds l s looks = record {
    listed = λ k h word.
        let hit : look_up ws l ≡ Some k = ap (look_up ws) (sym word) ∙ own_place ws k good.apart h in
        (looks.0 ∙ hit, looks.1 ∙ compared_found ws l k hit);
    not_listed = λ none. let miss = missed_word ws l none in (looks.0 ∙ miss, looks.1 ∙ compared_missed ws l miss);
  }

  pub look_up_c : (l : List ℕ) (r : ℕ) → LooksUpForC ws l r → (s : Search) × LooksUp ws l s × HalvesOf s r
  look_up_c l r told =
      let h = halves (look_up ws l) (compared ws l) (omega (arith, compared_few ws l, good.count, words_count)) in (
        record { found = look_up ws l; compared = compared ws l },
        (refl, refl),
        (ap (λ (x : ℕ). x % 65536) told ∙ h.0, ap (λ (x : ℕ). x / 65536) told ∙ h.1),
      )
