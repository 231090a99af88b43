-- A word is not empty, so less is left after it.
use Rattle.std.proofs.Common.{◌≡◌, ℕ, ◌<◌, Bool, true, false, not, length, take, drop, List, Option, eqb, OnSome, refl, sym, ap, ◌∙◌, subst, arith, rules, length-drop}
use Rattle.std.specs.Bool.{then_some}
use Rattle.std.proofs.lemmas.Bool.{eqb-false}
use Rattle.std.proofs.lemmas.List.{length-take}
use Rattle.lexer.specs.Parts.{blank}
use Rattle.lexer.proofs.words.WordsIterator.next.Goals as goal

on_some : {A : Type 0} (r : Option A) (b : Bool) (x : A) (P : Type 0) → r ≡ then_some (not b) x → (b ≡ false → P) → OnSome r P
on_some r true x P e k = subst (λ o. OnSome o P) (sym e) tt
on_some r false x P e k = subst (λ o. OnSome o P) (sym e) (k refl)

shorter : (line text word rest : List ℕ) (m n : ℕ) → text ≡ drop m line → word ≡ take n text → rest ≡ drop n text → eqb (length word) 0 ≡ false → length rest < length line
shorter line text word rest m n a b c e =
    let some = eqb-false _ _ e in
    omega (arith, ap length a, length-drop m line, ap length b, length-take n text, ap length c, length-drop n text)

pub returns-clause-goes : goal.returns-clause-goes
returns-clause-goes c =
    let text = c.cut_at.ensures (λ b. not (blank b)) (search rules) in
    let word = c.cut_at-2.ensures blank (search rules) in
    record {
      on = λ f. on_some _ c.is_empty.result _ _ c.then_some.ensures (λ e. (tt, tt, shorter _ _ _ _ _ _ text.1 word.0 word.1 (sym c.is_empty.ensures ∙ e)));
      keeps = search rules;
      rests = λ f. search rules;
    }
