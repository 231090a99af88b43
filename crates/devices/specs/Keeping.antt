-- A packet is kept ahead of order, or taken.
use Rattle.std.specs.Prelude.{◌≡◌, ℕ, ◌+◌, ◌-◌, ◌*◌, ◌%◌, ◌^◌, ◌<◌, ◌≤◌, min, Bool, true, false, cond, ◌⊎◌, List, [], ◌∷◌, ◌++◌, length, take, is_some, Some, None, Option, ◌==◌, ◌≢◌, nat_lt, slice_index_or, refl}
use Rattle.std.proofs.Common.{sym, ap, subst, ◌∙◌, inl, inr, arith, length-take}
use Rattle.std.proofs.Math.Path.{fun_ext}
use Rattle.std.proofs.lemmas.List.{take_all, take-take, take_at, length_push, get_or_push, get_or-take}
use Rattle.std.proofs.lemmas.Option.{none-some}
use Rattle.std.proofs.lemmas.Bool.{cases_lt, cases_eq, cond-true, cond-false, lt-ltb, le-ltb, eq-eqb, ne_eqb, or_parts, ltb-false, both_ways}
use Rattle.link.specs.declared.term.Window.{Window}
use Rattle.link.specs.Bounds.{sound}
use Rattle.link.specs.Meaning.{Follows, Kept, Meant, beside}
use Rattle.link.specs.Terms.{bytes_of}
use Rattle.devices.specs.Early.{early_from, early_of, kept_at}
use Rattle.devices.specs.declared.ahead.Ahead.{Ahead}
use Rattle.devices.specs.declared.since.Since.TheVariants.{Nothing}
use Rattle.devices.specs.Sinking.{SinkPipe, SinkRestarted, fresh, unused}
use Rattle.devices.specs.Sinks.{sink_at}
use Rattle.devices.specs.Taken.{lacks}
use Rattle.devices.specs.Waiting.{Waits, AllWait}
use Rattle.devices.specs.Mods.{mod_near}
use Rattle.link.proofs.Sound.{range_twice, range_least}

none_from : (b : Bool) (x : Option (List ℕ)) → x ≡ None → cond b None x ≡ None
none_from true x h = refl
none_from false x h = h

pub nothing_early : (f : ℕ) (e : ℕ → Option (List ℕ)) → e ≡ (λ k. None) → early_from f e ≡ (λ k. None)
nothing_early f e h = fun_ext (λ k. none_from (nat_lt k f) (e k) (ap (λ v. v k) h))

-- where nothing is, nothing waits
pub none_waits : (n : Option Window) (t : List (List ℕ)) (space most : ℕ) (e : ℕ → Option (List ℕ)) → e ≡ (λ k. None) → AllWait n t space most e
none_waits n t space most e h k b q = absurd (none-some b (sym (ap (λ v. v k) h) ∙ q))

early_at : (f : ℕ) (e : ℕ → Option (List ℕ)) (k : ℕ) → f ≤ k → early_from f e k ≡ e k
early_at f e k l = cond-false (nat_lt k f) None (e k) (le-ltb k f l)

-- an early packet is one from f on
pub early_is : (f : ℕ) (e : ℕ → Option (List ℕ)) (k : ℕ) (b : List ℕ) → early_from f e k ≡ Some b → (f ≤ k) × (e k ≡ Some b)
early_is f e k b q = elim (cases_lt k f) [
  | inl l ↦ absurd (none-some b (sym (cond-true (nat_lt k f) None (e k) (lt-ltb k f l)) ∙ q))
  | inr l ↦ (l, sym (early_at f e k l) ∙ q)
]

-- if packet f is not there, a later one lies past it
pub past_free : (e : ℕ → Option (List ℕ)) (f : ℕ) → e f ≡ None → (k : ℕ) (b : List ℕ) → e k ≡ Some b → f ≤ k → f < k
past_free e f none k b q l = elim (cases_lt f k) [
  | inl x ↦ x
  | inr x ↦ (let same : k ≡ f = omega arith in absurd (none-some b (sym none ∙ ap e (sym same) ∙ q)))
]

module _ (w : Window) (f : ℕ) (e : ℕ → Option (List ℕ)) (s j : ℕ) (h : sound w ≡ true) where
  -- the number stands for a packet that is kept already
  pub meant_held : (b : List ℕ) → Meant w f (λ k. None) s j → e j ≡ Some b → (i : ℕ) → Meant w f (early_from f e) s i → ⊥
  meant_held b m q i x =
      let r = range_twice w h in
      let r2 = range_least w h in
      let a = m.from in
      let b = m.within in
      let c = x.from in
      let d = x.within in
      let same : i ≡ j = mod_near w.range i j (omega arith) (omega arith) (x.number ∙ sym m.number) in
      none-some _ (sym x.fresh ∙ early_at f e i c ∙ ap e same ∙ q)

-- a packet that does not lack space has it
module _ (space most size bytes f j many : ℕ) (h : lacks space most size bytes f j many ≡ false) where
  pub spaced_of : bytes + (j - f) * size + many ≤ space
  spaced_of = ltb-false space (bytes + (j - f) * size + many) (or_parts (nat_lt space (bytes + (j - f) * size + many)) (nat_lt most (j + 1)) h).0

  pub counted_of : j < most
  counted_of = omega (arith, ltb-false most (j + 1) (or_parts (nat_lt space (bytes + (j - f) * size + many)) (nat_lt most (j + 1)) h).1)

module _ (e : ℕ → Option (List ℕ)) (j : ℕ) (b : List ℕ) where
  kept_same : (k : ℕ) → k % 16 ≡ j % 16 → kept_at j b e k ≡ cond (j == k) (Some b) None
  kept_same k q = cond-true (k % 16 == j % 16) (cond (j == k) (Some b) None) (e k) (eq-eqb (k % 16) (j % 16) q)

  kept_other : (k : ℕ) → (k % 16 ≢ j % 16) → kept_at j b e k ≡ e k
  kept_other k ne = cond-false (k % 16 == j % 16) (cond (j == k) (Some b) None) (e k) (ne_eqb (k % 16) (j % 16) ne)

  kept_after : (k : ℕ) (c : List ℕ) → kept_at j b e k ≡ Some c → ((k ≡ j) × (c ≡ b)) ⊎ (e k ≡ Some c)
  kept_after k c h = elim (cases_eq (k % 16) (j % 16)) [
    | inl q ↦ elim (cases_eq j k) [
      | inl z ↦ inl (sym z, (let x : Some c ≡ Some b = sym h ∙ kept_same k q ∙ cond-true (j == k) (Some b) None (eq-eqb j k z) in let y : c ≡ b = cc in y))
      | inr z ↦ absurd (none-some c (sym (sym h ∙ kept_same k q ∙ cond-false (j == k) (Some b) None (ne_eqb j k z))))
    ]
    | inr q ↦ inr (sym (kept_other k q) ∙ h)
  ]

  pub after_waits : (n : Option Window) (t : List (List ℕ)) (space most : ℕ) → Waits n t space most j b → AllWait n t space most e → AllWait n t space most (kept_at j b e)
  after_waits n t space most x h k c q = elim (kept_after k c q) [
    | inl y ↦ subst (λ v. Waits n t space most v c) (sym y.0) (subst (λ v. Waits n t space most j v) (sym y.1) x)
    | inr y ↦ h k c y
  ]

  pub after_past : (f : ℕ) → f < j → e f ≡ None → kept_at j b e f ≡ None
  after_past f l h = elim (cases_eq (f % 16) (j % 16)) [
    | inl q ↦ kept_same f q ∙ cond-false (j == f) (Some b) None (ne_eqb j f (λ z. let y : ⊥ = omega arith in y))
    | inr q ↦ kept_other f q ∙ h
  ]

  module _ (t : List (List ℕ)) (from : length t ≤ j) (close : j < length t + 16) (near : (k : ℕ) (c : List ℕ) → e k ≡ Some c → k < length t + 16) where
    gone : (k : ℕ) → length t ≤ k → (k ≢ j) → k % 16 ≡ j % 16 → (o : Option (List ℕ)) → e k ≡ o → e k ≡ None
    gone k l ne q None x = x
    gone k l ne q (Some c) x = absurd (ne (let y = near k c x in mod_near 16 k j (omega arith) (omega arith) q))

    beside_is : (k : ℕ) → length t ≤ k → beside j b (early_from (length t) e) k ≡ kept_at j b e k
    beside_is k l = elim (cases_eq k j) [
      | inl q ↦ cond-true (k == j) (Some b) (early_from (length t) e k) (eq-eqb k j q)
          ∙ sym (kept_same k (ap (λ v. v % 16) q) ∙ cond-true (j == k) (Some b) None (eq-eqb j k (sym q)))
      | inr q ↦ cond-false (k == j) (Some b) (early_from (length t) e k) (ne_eqb k j q) ∙ early_at (length t) e k l ∙ elim (cases_eq (k % 16) (j % 16)) [
        | inl z ↦ gone k l q z (e k) refl ∙ sym (kept_same k z ∙ cond-false (j == k) (Some b) None (ne_eqb j k (λ y. q (sym y))))
        | inr z ↦ sym (kept_other k z)
      ]
    ]

    -- nothing follows a packet that is kept past packet f
    pub kept_gather : (n : Option Window) → kept_at j b e (length t) ≡ None
        → Kept (record { numbers = n; taken = t; early = early_from (length t) e }) j b (record { numbers = n; taken = t; early = early_from (length t) (kept_at j b e) })
    kept_gather n none = record {
      numbers = refl;
      taken = record {
        old = take_all (length t) t (omega arith);
        more = λ k l m. absurd (let x : ⊥ = omega arith in x);
        stops = beside_is (length t) (omega arith) ∙ none;
      };
      early = λ k. elim (cases_lt k (length t)) [
        | inl l ↦ cond-true (nat_lt k (length t)) None (kept_at j b e k) (lt-ltb k (length t) l) ∙ sym (cond-true (nat_lt k (length t)) None (beside j b (early_from (length t) e) k) (lt-ltb k (length t) l))
        | inr l ↦ early_at (length t) (kept_at j b e) k l ∙ sym (beside_is k l) ∙ sym (cond-false (nat_lt k (length t)) None (beside j b (early_from (length t) e) k) (le-ltb k (length t) l))
      ];
    }

-- nothing follows if packet f is not there
pub follows_none : (t : List (List ℕ)) (e : ℕ → Option (List ℕ)) → e (length t) ≡ None → Follows t e t
follows_none t e h = record { old = take_all (length t) t (omega arith); more = λ k l m. absurd (let x : ⊥ = omega arith in x); stops = h }

-- packet f is taken at once, and those that follow
module _ (t t' : List (List ℕ)) (b : List ℕ) (e : ℕ → Option (List ℕ)) (j : ℕ) (same : j ≡ length t) (x : Follows (t ++ b ∷ []) e t') where
  one_more : length (t ++ b ∷ []) ≡ length t + 1
  one_more = length_push t b

  at_least : length t + 1 ≤ length t'
  at_least = omega (arith, one_more, length-take (length (t ++ b ∷ [])) t', ap length x.old)

  first : slice_index_or t' j [] ≡ b
  first =
      let l : j < length (t ++ b ∷ []) = omega (arith, one_more) in
      sym (get_or-take (length (t ++ b ∷ [])) t' j [] l) ∙ ap (λ v. slice_index_or v j []) x.old ∙ get_or_push t b [] j (let e : length t ≡ j = omega arith in e)

  beside_later : (k : ℕ) → length t < k → beside j b (early_from (length t) e) k ≡ e k
  beside_later k l =
      cond-false (k == j) (Some b) (early_from (length t) e k) (ne_eqb k j (λ q. let z : ⊥ = omega arith in z)) ∙ early_at (length t) e k (omega arith)

  pub kept_first : (n : Option Window)
      → Kept (record { numbers = n; taken = t; early = early_from (length t) e }) j b (record { numbers = n; taken = t'; early = early_from (length t') e })
  kept_first n = record {
    numbers = refl;
    taken = record {
      old =
          let l : length t ≤ length (t ++ b ∷ []) = omega (arith, one_more) in
          sym (take-take (length t) (length (t ++ b ∷ [])) t' l) ∙ ap (λ v. take (length t) v) x.old ∙ take_at t (b ∷ []) (length t) refl;
      more = λ k l m. elim (cases_eq k j) [
        | inl q ↦ cond-true (k == j) (Some b) (early_from (length t) e k) (eq-eqb k j q) ∙ ap Some (sym (ap (λ v. slice_index_or t' v []) q ∙ first))
        | inr q ↦ beside_later k (omega (arith, q)) ∙ x.more k (omega (arith, one_more, q)) m
      ];
      stops = beside_later (length t') (omega (arith, at_least)) ∙ x.stops;
    };
    early = λ k. elim (cases_lt k (length t')) [
      | inl l ↦ cond-true (nat_lt k (length t')) None (e k) (lt-ltb k (length t') l) ∙ sym (cond-true (nat_lt k (length t')) None (beside j b (early_from (length t) e) k) (lt-ltb k (length t') l))
      | inr l ↦ early_at (length t') e k l ∙ sym (beside_later k (omega (arith, at_least))) ∙ sym (cond-false (nat_lt k (length t')) None (beside j b (early_from (length t) e) k) (le-ltb k (length t') l))
    ];
  }

-- a packet of the window that does not lack space waits
pub waits_of : (w : Window) (t : List (List ℕ)) (space most j : ℕ) (b : List ℕ) → j < length t + w.burst → length b ≤ w.packet
    → lacks space most w.packet (bytes_of t) (length t) j (length b) ≡ false → Waits (Some w) t space most j b
waits_of w t space most j b near fits h = record {
  near = near;
  fits = fits;
  counted = counted_of space most w.packet (bytes_of t) (length t) j (length b) h;
  spaced = λ l. spaced_of space most w.packet (bytes_of t) (length t) j (length b) h;
}

-- a sink that took nothing and has nothing ahead
empty_is : (g : Bool) (n : Option Window) (t : List (List ℕ)) (e : ℕ → Option (List ℕ)) (space most : ℕ) → t ≡ [] → e ≡ (λ k. None)
    → sink_at g n t e space most Nothing ≡ record { gathers = g; out = record { numbers = n; taken = []; early = λ k. None }; space = space; most = most; since = Nothing }
empty_is g n t e space most h q =
    ap (λ v. sink_at g n v e space most Nothing) h
    ∙ ap (λ v. record { gathers = g; out = record { numbers = n; taken = []; early = v }; space = space; most = most; since = Nothing }) (nothing_early 0 e q)

pub restarted_empty : (k : SinkPipe) (p : ℕ) (w : Window) (g : Bool) (t : List (List ℕ)) (e : ℕ → Option (List ℕ)) (space most : ℕ) → p ≡ 0 → sound w ≡ true → g ≡ k.gathers → t ≡ [] → e ≡ (λ k. None)
    → space ≡ k.space → most ≡ k.most → SinkRestarted k p w (sink_at g (Some w) t e space most Nothing)
restarted_empty k p w g t e space most z h eg et ee ep em =
    subst (λ q. SinkRestarted k q w (sink_at g (Some w) t e space most Nothing)) (sym z)
    (empty_is g (Some w) t e space most et ee
    ∙ ap (λ v. record { gathers = v; out = record { numbers = Some w; taken = []; early = λ j. None }; space = space; most = most; since = Nothing }) eg
    ∙ ap (λ v. record { gathers = k.gathers; out = record { numbers = Some w; taken = []; early = λ j. None }; space = v; most = most; since = Nothing }) ep
    ∙ ap (λ v. record { gathers = k.gathers; out = record { numbers = Some w; taken = []; early = λ j. None }; space = k.space; most = v; since = Nothing }) em
    ∙ sym (cond-true (sound w) (fresh w k) k h))

pub new_empty : (g : Bool) (t : List (List ℕ)) (e : ℕ → Option (List ℕ)) (space most sp mo : ℕ) → t ≡ [] → e ≡ (λ k. None)
    → space ≡ min sp (2 ^ 24) → most ≡ min mo (2 ^ 25) → sink_at g None t e space most Nothing ≡ unused g sp mo
new_empty g t e space most sp mo et ee ep em =
    empty_is g None t e space most et ee
    ∙ ap (λ v. record { gathers = g; out = record { numbers = None; taken = []; early = λ j. None }; space = v; most = most; since = Nothing }) ep
    ∙ ap (λ v. record { gathers = g; out = record { numbers = None; taken = []; early = λ j. None }; space = min sp (2 ^ 24); most = v; since = Nothing }) em

-- a sink that does not gather has nothing early
pub plain_none : (a : Option Ahead) (f k : ℕ) → is_some a ≡ false → early_from f (early_of a) k ≡ None
plain_none None f k h = none_from (nat_lt k f) None refl
plain_none (Some a) f k h = absurd (both_ways true h refl)
