-- What `try_fold` gives over the elements of a slice, for steps that may fail.
use Rattle.std.proofs.Common.{◌≡◌, suc, List, [], ◌∷◌, ◌++◌, map, length, take, drop, Some, None, Option, sym, ap, ◌∙◌, MatchOption, option_and_then, append-nil, refl, subst, drop-cons}
use Rattle.std.specs.List.{FoldsTo}
use Rattle.std.specs.Fn.{Called}
use Rattle.std.specs.Iterator.{YieldsThen, TryFoldsItems, TryFoldTurn}
use Rattle.std.specs.ControlFlow.{continue_value}
use Rattle.std.specs.declared.ops.ControlFlow.{ControlFlow}
use Rattle.std.specs.declared.ops.ControlFlow.TheVariants.{Continue, Break}
use Rattle.std.proofs.lemmas.List.{take-append-drop}
use Rattle.std.proofs.lemmas.Iterator.{YieldsList}
use Rattle.std.proofs.lemmas.Iterator.Consumers.{YieldsList-so_far, YieldsList-turn, YieldsList-end}
use denote.Param.Members.{Mut}

-- the steps, as long as they give a value
abbrev pub folded : {A B : Type 0} → (A → B → Option A) → A → List B → Option A
folded step a [] = Some a
folded step a (x ∷ xs) = option_and_then (λ b. folded step b xs) (step a x)

-- a call that goes on gave its value, and one that breaks off gave none
abbrev Branches : {A E : Type 0} → Option A → ControlFlow E A → Type 0
Branches v r = v ≡ continue_value r

module _ {X A B F : Type 0} (E : Type 0) {view : X → B} {g : Mut F (A × (X × Unit {0})) (Option A)}
    (step : A → B → Option A) (f : F) (acts : (a : A) (x : X) (v : Option A) (q : F) → Called g f (a, (x, tt)) v q → (q ≡ f) × (v ≡ step a (view x))) where
  abbrev Turn : F × A → X → F × A → Type 0
  Turn = TryFoldTurn g (Branches {E = E})

  -- after the turns over a front of the list the rest decides
  turns : (xs : List X) (a b : A) (q : F) (rest : List B) → FoldsTo {P = F × A} Turn (f, a) xs (q, b)
      → (q ≡ f) × (folded step a (map view xs ++ rest) ≡ folded step b rest)
  turns [] a b q rest t = (sym (ap (λ z. z.0) t), ap (λ z. folded step z.1 rest) t)
  turns (x ∷ xs) a b q rest t =
      let k = acts a x t.1.0 t.0.0 t.1.1 in
      let more = turns xs t.0.1 b q rest (subst (λ h. FoldsTo {P = F × A} Turn (h, t.0.1) xs (q, b)) k.0 t.2) in
      (more.0, ap (option_and_then (λ c. folded step c (map view xs ++ rest))) (sym k.1 ∙ t.1.2) ∙ more.1)

  module _ {S : Type 0} {steps : S → Option X → S → Type 0} {s : S} {all : List B} (e : YieldsList steps view s all) (u : S) (a : A) where
    ends : (xs : List X) (o : Option X) (q : F) (b : A) (r : Option A) → YieldsThen steps s xs o u → FoldsTo {P = F × A} Turn (f, a) xs (q, b)
        → MatchOption o (Branches {E = E} r (Continue b)) (λ x. (v : Option A) × (h : F) × (w : E) × Called g q (b, (x, tt)) v h × Branches v (Break w) × (r ≡ None)) → r ≡ folded step a all
    ends xs None q b r y t m =
        let whole = YieldsList-end e xs _ y.1 None u refl y.2 in
        m ∙ sym (turns xs a b q [] t).1 ∙ ap (folded step a) (append-nil _ ∙ whole.0)
    ends xs (Some x) q b r y t m =
        let n = length xs in
        let front = YieldsList-so_far e xs _ y.1 in
        let at = YieldsList-turn e xs _ y.1 (Some x) u x refl y.2 in
        let rest : drop n all ≡ view x ∷ drop (suc n) all = drop-cons all n (view x) at.0 ∙ ap (λ z. z ∷ drop (suc n) all) (sym at.1) in
        let split : map view xs ++ (view x ∷ drop (suc n) all) ≡ all = ap (λ z. z ++ (view x ∷ drop (suc n) all)) front ∙ ap (λ z. take n all ++ z) (sym rest) ∙ take-append-drop n all in
        let over = turns xs a b q (view x ∷ drop (suc n) all) t in
        let stop : None ≡ step b (view x) = sym m.4 ∙ (acts b x m.0 m.1 (subst (λ h. Called g h (b, (x, tt)) m.0 m.1) over.0 m.3)).1 in
        m.5 ∙ ap (option_and_then (λ c. folded step c (drop (suc n) all))) stop ∙ sym over.1 ∙ ap (folded step a) split

    pub folded_from_try_fold : (r : Option A) → TryFoldsItems steps g (Branches {E = E}) (λ _ r. r ≡ None) s f a r u → r ≡ folded step a all
    folded_from_try_fold r t = ends t.0 t.1 t.2 t.3 r t.4 t.5 t.6
