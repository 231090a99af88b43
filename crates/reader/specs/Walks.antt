-- How a cursor goes through its text.
use Rattle.std.specs.Prelude.{◌≡◌, ℕ, suc, ◌+◌, ◌-◌, ◌%◌, ◌<◌, ◌≤◌, min, List, [], ◌∷◌, ◌++◌, length, take, drop, ◌≢◌, nat_lt, slice_index, refl}
use Rattle.std.proofs.Common.{sym, ap, subst, ◌∙◌, ⊎_elim, arith, length-drop, add-one, take-add}
use Rattle.std.proofs.lemmas.List.{drop-drop, drop_all, take_all, drop_more, drop-take, length-take-le}
use Rattle.std.proofs.lemmas.Bool.{cond-true, cond-false, lt-ltb, le-ltb, cases_lt}
use Rattle.std.proofs.Math.Nat.{add-mod-mod}
use Rattle.std.proofs.lemmas.Nat.{mod_below}
use Rattle.reader.specs.Bytes.{flat, sum_of}
use Rattle.link.specs.Text.{after, rest, text_packets}
use Rattle.link.proofs.Cuts.{some_left}
use Rattle.link.specs.Meaning.{Bit}
use Rattle.reader.specs.declared.cursor.Place.{Place}
use Rattle.reader.specs.Seeking.{Missing}
use Rattle.reader.specs.declared.cursor.Cursor.{Cursor}
use Rattle.reader.specs.Reading.{messages, less, text_at, Stands, Next}

take_min : (k : ℕ) (xs : List ℕ) → take k xs ≡ take (min k (length xs)) xs
take_min k xs = ⊎_elim
    (λ l. ap (λ n. take n xs) (let e : k ≡ min k (length xs) = omega arith in e))
    (λ g. take_all k xs g ∙ sym (take_all (min k (length xs)) xs (omega arith)))
    (cases_lt k (length xs))

drop_min : (k : ℕ) (xs : List ℕ) → drop k xs ≡ drop (min k (length xs)) xs
drop_min k xs = ⊎_elim
    (λ l. ap (λ n. drop n xs) (let e : k ≡ min k (length xs) = omega arith in e))
    (λ g. drop_all k xs g ∙ sym (drop_all (min k (length xs)) xs (omega arith)))
    (cases_lt k (length xs))

pub at_end : (bs ls : List ℕ) (c : Cursor) → length ls ≤ c.message → text_at bs ls c ≡ []
unfolding text_at
at_end bs ls c h = ap (λ t. messages (drop c.here bs) (less c.spent t)) (drop_all c.message ls h)

pub at_left : (bs ls : List ℕ) (c : Cursor) (n : ℕ) → c.here ≤ length bs → c.message < length ls
    → n ≡ min (slice_index ls c.message - c.spent) (length bs - c.here) → Stands bs ls c n
unfolding text_at
at_left bs ls c n h l e =
    let k : ℕ = slice_index ls c.message - c.spent in
    let xs : List ℕ = drop c.here bs in
    let m : n ≡ min k (length xs) = e ∙ ap (λ v. min k v) (sym (length-drop c.here bs)) in
    record {
      text = ap (λ t. messages xs (less c.spent t)) (drop_more ls c.message 0 l)
          ∙ ap (λ t. t ∷ messages (drop k xs) (drop (c.message + 1) ls)) (take_min k xs ∙ ap (λ v. take v xs) (sym m))
          ∙ ap (λ t. take n xs ∷ messages t (drop (c.message + 1) ls)) (drop_min k xs ∙ ap (λ v. drop v xs) (sym m) ∙ drop-drop n c.here bs);
      inside = omega arith;
      one = l;
      is = e;
    }

less_zero : (ls : List ℕ) → less 0 ls ≡ ls
less_zero [] = refl
less_zero (n ∷ ns) = ap (λ k. k ∷ ns) (let e : n - 0 ≡ n = omega arith in e)

pub length_left : (bs ls : List ℕ) (c : Cursor) (n : ℕ) → Stands bs ls c n → length (take n (drop c.here bs)) ≡ n
length_left bs ls c n s = length-take-le n (drop c.here bs) (simp length-drop (omega (arith, s.inside)))

never_none : (x : List ℕ) (xs t : List (List ℕ)) → t ≡ x ∷ xs → t ≢ []
never_none x xs t e f = let z : ◌≡◌ {A = ℕ} 0 1 = cc in omega arith

pub not_end : (bs ls : List ℕ) (c : Cursor) → c.here ≤ length bs → c.message < length ls → text_at bs ls c ≢ []
not_end bs ls c h l e = never_none _ _ _ (at_left bs ls c (min (slice_index ls c.message - c.spent) (length bs - c.here)) h l refl).text e

pub next_short : (bs ls : List ℕ) (c : Cursor) (n size : ℕ) → Stands bs ls c n → n < size
    → Next bs ls size c (record { message = c.message + 1; spent = 0; here = c.here + n })
unfolding text_at
next_short bs ls c n size s h =
    let m : List ℕ = take n (drop c.here bs) in
    let ms : List (List ℕ) = messages (drop (c.here + n) bs) (drop (c.message + 1) ls) in
    let l : length m < size = omega (arith, length_left bs ls c n s) in
    record {
      text = ap (λ t. messages (drop (c.here + n) bs) t) (less_zero (drop (c.message + 1) ls))
          ∙ sym (ap (λ t. after size t) s.text ∙ cond-true (nat_lt (length m) size) ms (drop size m ∷ ms) (lt-ltb (length m) size l));
      some = never_none m ms _ s.text;
      more = omega arith;
      inside = s.inside;
      within = omega arith;
    }

pub next_long : (bs ls : List ℕ) (c : Cursor) (n size : ℕ) → Stands bs ls c n → size ≤ n → 0 < size
    → Next bs ls size c (record { message = c.message; spent = c.spent + size; here = c.here + size })
next_long bs ls c n size s h z =
    let m : List ℕ = take n (drop c.here bs) in
    let ms : List (List ℕ) = messages (drop (c.here + n) bs) (drop (c.message + 1) ls) in
    let l : size ≤ length m = omega (arith, length_left bs ls c n s) in
    let d : Cursor = record { message = c.message; spent = c.spent + size; here = c.here + size } in
    let t : Stands bs ls d (n - size) = at_left bs ls d (n - size) (omega arith) s.one (omega arith) in
    let e : n ≡ size + (n - size) = omega arith in
    let g : c.here + size + (n - size) ≡ c.here + n = omega arith in
    let cut : drop size m ≡ take (n - size) (drop (c.here + size) bs) =
    ap (λ k. drop size (take k (drop c.here bs))) e ∙ drop-take size (n - size) (drop c.here bs) ∙ ap (λ v. take (n - size) v) (drop-drop size c.here bs) in
    record {
      text = t.text ∙ ap (λ k. take (n - size) (drop (c.here + size) bs) ∷ messages (drop k bs) (drop (c.message + 1) ls)) g
          ∙ ap (λ v. v ∷ ms) (sym cut)
          ∙ sym (ap (λ v. after size v) s.text ∙ cond-false (nat_lt (length m) size) ms (drop size m ∷ ms) (le-ltb (length m) size l));
      some = never_none m ms _ s.text;
      more = omega arith;
      inside = omega arith;
      within = omega arith;
    }

-- the cursor at stands d packets on from c, and none of those is wanted
pub record Walked (bs ls : List ℕ) (P M b : ℕ) (c : Place) (at : Cursor) (d : ℕ) : Type 0 where
  pub text : text_at bs ls at ≡ rest P (text_at bs ls c.at) d
  pub count : d ≤ length (text_packets P (text_at bs ls c.at))
  pub inside : at.here ≤ length bs
  pub within : at.message ≤ length ls
  pub small : c.number + d ≤ at.here + at.message
  pub none : (j : ℕ) → c.number ≤ j → j < c.number + d → Bit b (j % M) → ⊥

module _ (bs ls : List ℕ) (P M b : ℕ) (c : Place) where
  -- one packet more that is not wanted
  more_none : (d : ℕ) → ((j : ℕ) → c.number ≤ j → j < c.number + d → Bit b (j % M) → ⊥) → (Bit b ((c.number + d) % M) → ⊥)
      → (j : ℕ) → c.number ≤ j → j < c.number + d + 1 → Bit b (j % M) → ⊥
  more_none d n here j l h x = ⊎_elim (λ below. n j l below x)
      (λ above. let e : j ≡ c.number + d = omega arith in here (subst (λ k. Bit b (k % M)) e x)) (cases_lt j (c.number + d))

  pub walked_more : (at n : Cursor) (d : ℕ) → 0 < P → Walked bs ls P M b c at d → Next bs ls P at n → (Bit b ((c.number + d) % M) → ⊥) → Walked bs ls P M b c n (d + 1)
  walked_more at n d p k x none = record {
    text = x.text ∙ ap (λ t. after P t) k.text ∙ ap (λ v. rest P (text_at bs ls c.at) v) (sym (add-one d));
    count = omega (arith, some_left P (text_at bs ls c.at) d p (λ e. x.some (k.text ∙ e)));
    inside = x.inside;
    within = x.within;
    small = omega (arith, k.small, x.more);
    none = λ j l h. more_none d k.none none j l (omega arith);
  }

  pub walked_all : (at : Cursor) (d : ℕ) → Walked bs ls P M b c at d → M ≤ d → 0 < M → Missing bs ls P M b c
  walked_all at d k far r a x =
      let e : ℕ = (a - c.number) % M in
      let l : e < M = mod_below (a - c.number) M r in
      let q : (c.number + e) % M ≡ a % M = add-mod-mod c.number (a - c.number) M ∙ ap (λ v. v % M) (let s : c.number + (a - c.number) ≡ a = omega (arith, x.from) in s) in
      absurd (k.none (c.number + e) (omega arith) (omega arith) (subst (λ v. Bit b v) (sym q) x.set))

pub text_start : (bs ls cs ms : List ℕ) → bs ≡ cs → ls ≡ ms → text_at bs ls (record { message = 0; spent = 0; here = 0 }) ≡ messages cs ms
unfolding text_at
text_start bs ls cs ms e f = ap (λ t. messages bs t) (less_zero ls) ∙ ap (λ v. messages v ls) e ∙ ap (λ v. messages cs v) f

-- the bytes of messages are those that their lengths take in
pub flat_messages : (bs ls : List ℕ) → flat (messages bs ls) ≡ take (sum_of ls) bs
flat_messages bs [] = refl
flat_messages bs (n ∷ ns) = ap (λ t. take n bs ++ t) (flat_messages (drop n bs) ns) ∙ sym (take-add n (sum_of ns) bs)

-- what is left of a message, with the lengths of the later ones, takes in all that is left
pub counted_all : (bs ls : List ℕ) (c : Cursor) (left many : ℕ) → Stands bs ls c left → many ≡ min (left + sum_of (drop (c.message + 1) ls)) (length bs - c.here)
    → take many (drop c.here bs) ≡ flat (text_at bs ls c)
counted_all bs ls c left many s e =
    let xs = drop c.here bs in
    let ns = drop (c.message + 1) ls in
    ap (λ v. take v xs) (e ∙ ap (λ v. min (left + sum_of ns) v) (sym (length-drop c.here bs))) ∙ sym (take_min (left + sum_of ns) xs)
    ∙ take-add left (sum_of ns) xs
    ∙ ap (λ t. take left xs ++ take (sum_of ns) t) (drop-drop left c.here bs)
    ∙ sym (ap flat s.text ∙ ap (λ t. take left xs ++ t) (flat_messages (drop (c.here + left) bs) ns))

pub few_messages : (bs ls : List ℕ) → length (messages bs ls) ≡ length ls
few_messages bs [] = refl
few_messages bs (n ∷ ns) = ap suc (few_messages (drop n bs) ns)

pub same_many : (k : ℕ) (ls : List ℕ) → length (less k ls) ≡ length ls
same_many k [] = refl
same_many k (n ∷ ns) = refl

-- the messages from a cursor on, counted
pub messages_left : (bs ls : List ℕ) (c : Cursor) → length (text_at bs ls c) ≡ length ls - c.message
unfolding text_at
messages_left bs ls c = few_messages (drop c.here bs) (less c.spent (drop c.message ls)) ∙ same_many c.spent (drop c.message ls) ∙ length-drop c.message ls
