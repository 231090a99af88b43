-- The reader's polls and fetches, on its one pipe.
use Rattle.std.specs.Prelude.{◌≡◌, ℕ, zero, suc, ◌+◌, ◌-◌, ◌*◌, ◌^◌, ◌<◌, ◌≤◌, min, Bool, true, false, cond, List, [], ◌∷◌, length, take, drop, Some, None, vec_items, Option, ◌≢◌, nat_lt, refl}
use Rattle.std.proofs.Common.{sym, ap, subst, ◌∙◌, ⊎_elim, inl, inr, arith, length-drop, length-take}
use Rattle.std.proofs.lemmas.List.{drop-drop, drop-take, take-take, take_all}
use Rattle.std.proofs.lemmas.Bool.{cond-true, cond-false, lt-ltb, le-ltb, cases_lt}
use Rattle.link.specs.Bounds.{sound}
use Rattle.link.specs.Text.{rest, text_packets}
use Rattle.link.specs.Meaning.{In, Pipe, absent, inward, Aim, Allowed, unacknowledged, moved, count, solo, Polls, Fetches, Restarts, Only, Moves, MayGive, Sends, Collects}
use Rattle.link.specs.Terms.{total, bytes_of, InBounds, Bounded}
use Rattle.link.proofs.Sound.{sized}
use Rattle.link.proofs.Solo.{only_zero, only_same, bounds_one}
use Rattle.link.specs.Optional.{still_absent}
use Rattle.link.specs.declared.answers.Collected.{Collected}
use Rattle.link.specs.declared.answers.Collected.TheVariants as collected
use Rattle.link.specs.declared.term.Window.{Window}
use Rattle.link.specs.declared.answers.PollAnswer.{PollAnswer}
use Rattle.link.specs.declared.answers.PollAnswer.TheVariants.{Data, NotReady, Silence}
use Rattle.link.proofs.Cuts.{none_left, some_left, rest_add, count_rest, none_allowed, beyond_allowed, is_allowed, packets_few}
use Rattle.reader.specs.declared.cursor.Cursor.{Cursor}
use Rattle.reader.specs.declared.cursor.Place.{Place}
use Rattle.reader.specs.Reading.{text_at, Stands, messages, less, pipe_at}
use Rattle.reader.specs.Walks.{not_end, at_end, length_left, few_messages, same_many}
use Rattle.reader.specs.Seeking.{Found, Missing}
use Rattle.link.specs.Numbered.{numbers_of}
use Rattle.link.specs.declared.term.SoundWindow.{SoundWindow}
use Rattle.reader.specs.declared.reader.Reader.{Reader}
use Rattle.reader.specs.Readers.{ReaderPolled, ReaderFetched, ReaderRestarted, PolledIn, FetchedIn, pipe_of}

module _ (bs ls : List ℕ) (w : Window) (b : ℕ) (s : Place) (i : In)
    (p : 0 < w.packet) (here : i.place ≡ s.number) (stands : text_at bs ls s.at ≡ rest w.packet i.text i.place) where
  left_on : (d : ℕ) → rest w.packet (text_at bs ls s.at) d ≡ rest w.packet i.text (i.place + d)
  left_on d = ap (λ t. rest w.packet t d) stands ∙ rest_add w.packet i.text i.place d

  pub polled_missing : Missing bs ls w.packet w.range b s → PolledIn (Some w) i b Silence i
  polled_missing m = inl (
    refl,
    refl,
    λ k a.
        let x = m k (subst (λ v. Aim w.range b v k) here a) in
        omega (arith, x.2, here, none_left w.packet i.text (i.place + x.0) p (sym (left_on x.0) ∙ x.1)),
  )

  module _ (f : Place) (x : Found bs ls w.packet w.range b s f) (in_count : i.place ≤ length (text_packets w.packet i.text)) where
    pub found_text : text_at bs ls f.at ≡ rest w.packet i.text f.number
    found_text = x.text ∙ left_on (f.number - s.number) ∙ ap (λ v. rest w.packet i.text v) (let e : i.place + (f.number - s.number) ≡ f.number = omega (arith, x.aim.from, here) in e)

    pub found_count : f.number ≤ count w i
    found_count = omega (arith, x.count, x.aim.from, here, ap (λ t. length (text_packets w.packet t)) stands ∙ count_rest w.packet i.text i.place p)

    pub polled_data : (text_at bs ls f.at ≢ []) → PolledIn (Some w) i b Data (moved i f.number)
    polled_data h =
        let l : f.number < count w i = some_left w.packet i.text f.number p (λ e. h (found_text ∙ e)) in
        inr (f.number, subst (λ v. Aim w.range b v f.number) (sym here) x.aim, found_count, sym (cond-true (nat_lt f.number (count w i)) Data NotReady (lt-ltb f.number (count w i) l)), refl)

    pub polled_end : text_at bs ls f.at ≡ [] → PolledIn (Some w) i b NotReady (moved i f.number)
    polled_end h =
        let l : count w i ≤ f.number = none_left w.packet i.text f.number p (sym found_text ∙ h) in
        inr (f.number, subst (λ v. Aim w.range b v f.number) (sym here) x.aim, found_count, sym (cond-false (nat_lt f.number (count w i)) Data NotReady (le-ltb f.number (count w i) l)), refl)

take_both : (a b : ℕ) (xs : List ℕ) → take a (take b xs) ≡ take (min a b) xs
take_both a b xs = ⊎_elim
    (λ (l : a < b). take-take a b xs (omega arith) ∙ ap (λ n. take n xs) (let e : a ≡ min a b = omega arith in e))
    (λ (g : b ≤ a). take_all a (take b xs) (simp length-take (omega arith)) ∙ ap (λ n. take n xs) (let e : b ≡ min a b = omega arith in e))
    (cases_lt a b)

part_of : (bs : List ℕ) (here left skip size : ℕ) → skip ≤ left → take size (drop skip (take left (drop here bs))) ≡ take (min size (left - skip)) (drop (here + skip) bs)
part_of bs here left skip size h =
    ap (λ v. take size (drop skip (take v (drop here bs)))) (let e : left ≡ skip + (left - skip) = omega arith in e)
    ∙ ap (λ t. take size t) (drop-take skip (left - skip) (drop here bs) ∙ ap (λ t. take (left - skip) t) (drop-drop skip here bs))
    ∙ take_both size (left - skip) (drop (here + skip) bs)

-- The same of a reader that was restarted with the numbers of v.
module _ (s : Reader) (v : SoundWindow) (e : s.window ≡ Some v) where
  abbrev bs : List ℕ
  bs = vec_items s.text.bytes

  abbrev ls : List ℕ
  ls = vec_items s.text.lengths

  abbrev w : Window
  w = v.window

  abbrev started : List (List ℕ)
  started = text_at bs ls s.start

  numbers : numbers_of s.window ≡ Some w
  numbers = ap numbers_of e

  size_pos : 0 < w.packet
  size_pos = sized w v.within

  stands_at : text_at bs ls s.place.at ≡ rest w.packet started s.place.number
  stands_at = s.stands ∙ ap (λ n. unacknowledged n started s.place.number) numbers

  reached_at : s.place.number ≤ length (text_packets w.packet started)
  reached_at = subst (λ n. s.place.number ≤ total n started) numbers s.reached

  polled_at : (p b : ℕ) (a : PollAnswer) (j : In) → p ≡ 0 → PolledIn (Some w) (pipe_of s) b a j → ReaderPolled (pipe_of s) p b a j
  polled_at p b a j z h = subst (λ q. ReaderPolled (pipe_of s) q b a j) (sym z) (subst (λ n. PolledIn n (pipe_of s) b a j) (sym numbers) h)

  fetched_at : (i : ℕ) (a : Option (List ℕ)) → FetchedIn (Some w) (pipe_of s) i a → FetchedIn (numbers_of s.window) (pipe_of s) i a
  fetched_at i a h = subst (λ n. FetchedIn n (pipe_of s) i a) (sym numbers) h

  pub reader_missing : (p b : ℕ) → p ≡ 0 → Missing bs ls w.packet w.range b s.place → ReaderPolled (pipe_of s) p b Silence (pipe_of s)
  reader_missing p b z m = polled_at p b Silence (pipe_of s) z (polled_missing bs ls w b s.place (pipe_of s) size_pos refl stands_at m)

  module _ (p b : ℕ) (f : Place) (x : Found bs ls w.packet w.range b s.place f) where
    pub stands_next : text_at bs ls f.at ≡ unacknowledged (numbers_of s.window) started f.number
    stands_next = found_text bs ls w b s.place (pipe_of s) size_pos refl stands_at f x reached_at ∙ ap (λ n. unacknowledged n started f.number) (sym numbers)

    pub reached_next : f.number ≤ total (numbers_of s.window) started
    reached_next = subst (λ n. f.number ≤ total n started) (sym numbers) (found_count bs ls w b s.place (pipe_of s) size_pos refl stands_at f x reached_at)

    pub reader_data : p ≡ 0 → f.at.message < length ls → ReaderPolled (pipe_of s) p b Data (moved (pipe_of s) f.number)
    reader_data z l = polled_at p b Data _ z (polled_data bs ls w b s.place (pipe_of s) size_pos refl stands_at f x reached_at (not_end bs ls f.at x.inside l))

    pub reader_end : p ≡ 0 → length ls ≤ f.at.message → ReaderPolled (pipe_of s) p b NotReady (moved (pipe_of s) f.number)
    reader_end z l = polled_at p b NotReady _ z (polled_end bs ls w b s.place (pipe_of s) size_pos refl stands_at f x reached_at (at_end bs ls f.at l))

  pub fetch_none : (i : ℕ) → text_at bs ls s.place.at ≡ [] → FetchedIn (numbers_of s.window) (pipe_of s) i None
  fetch_none i h = fetched_at i None (none_allowed w (pipe_of s) i size_pos (sym stands_at ∙ h))

  module _ (i left : ℕ) (t : Stands bs ls s.place.at left) where
    pub fetch_beyond : left < i * w.packet → FetchedIn (numbers_of s.window) (pipe_of s) i None
    fetch_beyond h = fetched_at i None (beyond_allowed w (pipe_of s) i size_pos _ _ (sym stands_at ∙ t.text) (omega (arith, h, length_left bs ls s.place.at left t)))

    pub fetch_given : (got : List ℕ) → i < w.burst → i * w.packet ≤ left
        → got ≡ take (min w.packet (left - i * w.packet)) (drop (s.place.at.here + i * w.packet) bs) → FetchedIn (numbers_of s.window) (pipe_of s) i (Some got)
    fetch_given got l h g = fetched_at i (Some got)
        (subst (λ v. Allowed w (pipe_of s) i v) (part_of bs s.place.at.here left (i * w.packet) w.packet h ∙ sym g)
        (is_allowed w (pipe_of s) i size_pos _ _ (sym stands_at ∙ t.text) l (omega (arith, h, length_left bs ls s.place.at left t))))

-- The reader's steps meet the clauses.
unmoved : (p : ℕ) (a b : In) → b ≡ a → Only p (solo (inward a)) (solo (inward b))
unmoved p a b e = only_same p (inward a) (inward b) (ap inward e)

cond_ap : (b : Bool) (x y : In) → inward (cond b x y) ≡ cond b (inward x) (inward y)
cond_ap true x y = refl
cond_ap false x y = refl

moves_either : (t : Bool) (i : In) (b : ℕ) (q : Pipe) → Moves i.numbers i b q → Polls (inward i) b (cond t Data NotReady) q
moves_either true i b q m = m
moves_either false i b q m = inr m

polled_clause : (n : Option Window) (i j : In) (b : ℕ) (a : PollAnswer) → i.numbers ≡ n → PolledIn n i b a j → Polls (inward i) b a (inward j)
polled_clause None i j b a e h = subst (λ v. Polls (inward i) b v (inward j)) (sym h.0) (inl (ap inward h.1))
polled_clause (Some w) i j b a e (inl h) = subst (λ v. Polls (inward i) b v (inward j)) (sym h.0) (inl (ap inward h.1))
polled_clause (Some w) i j b a e (inr h) = subst (λ v. Polls (inward i) b v (inward j)) (sym h.3)
    (moves_either (nat_lt h.0 (count w i)) i b (inward j) (subst (λ v. Moves v i b (inward j)) (sym e) (h.0, h.1, h.2, ap inward h.4)))

given_clause : (n : Option Window) (i : In) (k : ℕ) (bs : List ℕ) → FetchedIn n i k (Some bs) → MayGive n i k bs
given_clause None i k bs h = let z : ◌≡◌ {A = ℕ} 0 1 = cc in omega arith
given_clause (Some w) i k bs h = h

pub restart_law : (i j : In) (p : ℕ) (w : Window) → ReaderRestarted i p w j → Restarts (solo (inward i) p) w (solo (inward j) p) × Only p (solo (inward i)) (solo (inward j))
restart_law i j zero w h = (ap inward h ∙ cond_ap (sound w) _ i, only_zero (inward i) (inward j))
restart_law i j (suc p) w h = (still_absent (sound w), unmoved (suc p) i j h)

pub poll_law : (i j : In) (p b : ℕ) (a : PollAnswer) → ReaderPolled i p b a j → Polls (solo (inward i) p) b a (solo (inward j) p) × Only p (solo (inward i)) (solo (inward j))
poll_law i j zero b a h = (polled_clause i.numbers i j b a refl h, only_zero (inward i) (inward j))
poll_law i j (suc p) b a h = (subst (λ v. Polls absent b v absent) (sym h.0) refl, unmoved (suc p) i j h.1)

pub fetch_law : (i j : In) (p k : ℕ) (a : Option (List ℕ)) → ReaderFetched i p k a j → Fetches (solo (inward i) p) k a (solo (inward j) p) × Only p (solo (inward i)) (solo (inward j))
fetch_law i j zero k None h = ((tt, ap inward h.1), only_zero (inward i) (inward j))
fetch_law i j zero k (Some bs) h = ((given_clause i.numbers i k bs h.0, ap inward h.1), only_zero (inward i) (inward j))
fetch_law i j (suc p) k a h = (subst (λ v. Fetches absent k v absent) (sym h.0) (tt, refl), unmoved (suc p) i j h.1)

pub send_law : (i j : In) (p n : ℕ) (b : List ℕ) → j ≡ i → Sends (solo (inward i) p) n b (solo (inward j) p) × Only p (solo (inward i)) (solo (inward j))
send_law i j zero n b e = (ap inward e, only_zero (inward i) (inward j))
send_law i j (suc p) n b e = (refl, unmoved (suc p) i j e)

pub collect_law : (i j : In) (p : ℕ) (a : Collected) → a ≡ collected.Stall → j ≡ i → Collects (solo (inward i) p) a (solo (inward j) p) × Only p (solo (inward i)) (solo (inward j))
collect_law i j p a f e = (subst (λ v. Collects (solo (inward i) p) v (solo (inward j) p)) (sym f) (tt, ap (λ v. solo (inward v) p) e), unmoved p i j e)

-- a reader's text within the bounds of a term
few_bytes : (bs ls : List ℕ) → bytes_of (messages bs ls) ≤ length bs
few_bytes bs [] = omega arith
few_bytes bs (n ∷ ns) = omega (arith, few_bytes (drop n bs) ns, length-take n bs, length-drop n bs)

total_few : (n : Option Window) (ms : List (List ℕ)) → total n ms ≤ bytes_of ms + length ms
total_few None ms = omega arith
total_few (Some w) ms = packets_few w.packet ms

in_bounds : (n : Option Window) (bs ls : List ℕ) (c : Cursor) (k : ℕ) → length bs ≤ 2 ^ 24 → length ls ≤ 2 ^ 24 → InBounds (pipe_at n bs ls c k)
unfolding text_at
in_bounds n bs ls c k x y =
    let b = few_bytes (drop c.here bs) (less c.spent (drop c.message ls)) in
    let m = few_messages (drop c.here bs) (less c.spent (drop c.message ls)) ∙ same_many c.spent (drop c.message ls) in
    record {
      bytes = omega (arith, b, length-drop c.here bs);
      messages = omega (arith, m, length-drop c.message ls);
      packets = omega (arith, total_few n (messages (drop c.here bs) (less c.spent (drop c.message ls))), b, m, length-drop c.here bs, length-drop c.message ls);
    }

pub bounds_reader : (n : Option Window) (bs ls : List ℕ) (c : Cursor) (k : ℕ) → length bs ≤ 2 ^ 24 → length ls ≤ 2 ^ 24 → (p : ℕ) → Bounded (solo (inward (pipe_at n bs ls c k)) p)
bounds_reader n bs ls c k x y p = bounds_one _ (in_bounds n bs ls c k x y) p
