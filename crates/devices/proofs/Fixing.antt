-- Each call of a sink has one answer and one outcome.
use Rattle.std.proofs.Common.{◌≡◌, ℕ, zero, suc, ◌^◌, ◌<◌, true, false, List, length, Some, None, Option, sym, ap, ◌∙◌, subst, arith}
use Rattle.std.proofs.lemmas.Bool.{both_ways}
use Rattle.link.specs.declared.term.Window.{Window}
use Rattle.link.specs.declared.answers.Collected.{Collected}
use Rattle.link.specs.declared.answers.Collected.TheVariants as collected
use Rattle.link.specs.Bounds.{sound, sounds}
use Rattle.link.specs.Meaning.{Out, Meant, Kept, Vector}
use Rattle.link.proofs.Fixed.{kept_same, vector_same}
use Rattle.link.proofs.Once.{meant_once}
use Rattle.link.proofs.Solo.{solo_gapless}
use Rattle.devices.specs.declared.since.Since.{Since}
use Rattle.devices.specs.declared.since.Since.TheVariants.{Nothing, Lacking, Otherwise}
use Rattle.devices.specs.Sinking.{SinkPipe, Sent, nowhere, lacking, dropped, kept, short, SentIn, SinkSent, SinkRestarted, SinkCollected, CollectedIn, Answers}
use Rattle.devices.specs.Fixed.{Word, SinksFixed, NoGaps, PlainInOrder}
use Rattle.devices.specs.Keeping.{plain_none}
use Rattle.devices.specs.Stored.{taken_in}

sink_restart : (i j k : SinkPipe) (p : ℕ) (w : Window) → SinkRestarted i p w j → SinkRestarted i p w k → j ≡ k
sink_restart i j k zero w x y = x ∙ sym y
sink_restart i j k (suc p) w x y = x ∙ sym y

sink_same : (x y : SinkPipe) → x.gathers ≡ y.gathers → x.out ≡ y.out → x.space ≡ y.space → x.most ≡ y.most → x.since ≡ y.since → x ≡ y
sink_same x y g a b c d =
    ap (λ v. record { gathers = v; out = x.out; space = x.space; most = x.most; since = x.since }) g
    ∙
    ap (λ v. record { gathers = y.gathers; out = v; space = x.space; most = x.most; since = x.since }) a
    ∙ ap (λ v. record { gathers = y.gathers; out = y.out; space = v; most = x.most; since = x.since }) b
    ∙ ap (λ v. record { gathers = y.gathers; out = y.out; space = y.space; most = v; since = x.since }) c
    ∙ ap (λ v. record { gathers = y.gathers; out = y.out; space = y.space; most = y.most; since = v }) d

module _ (w : Window) (k : SinkPipe) (s : ℕ) (b : List ℕ) (h : sound w ≡ true) where
  meant_same : (i j : ℕ) → Meant w (length k.out.taken) k.out.early s i → Meant w (length k.out.taken) k.out.early s j → i ≡ j
  meant_same i j = meant_once w (length k.out.taken) k.out.early s i j h

  full_not : (i j : ℕ) → i ≡ j → short w k i (length b) ≡ true → short w k j (length b) ≡ false → ⊥
  full_not i j e x y = both_ways (short w k j (length b)) y (subst (λ v. short w k v (length b) ≡ true) e x)

  sent_same : (l m : SinkPipe) → Sent w k s b l → Sent w k s b m → l ≡ m
  sent_same l m (nowhere x e) (nowhere y f) = e ∙ sym f
  sent_same l m (nowhere x e) (lacking j a c d f) = absurd (x j a c)
  sent_same l m (nowhere x e) (dropped j a c d o p f) = absurd (x j a c)
  sent_same l m (nowhere x e) (kept j a c d o q y u v t) = absurd (x j a c)
  sent_same l m (lacking j a c d f) (nowhere y e) = absurd (y j a c)
  sent_same l m (lacking j a c d f) (lacking j' a' c' d' f') = f ∙ sym f'
  sent_same l m (lacking j a c d f) (dropped j' a' c' d' o p f') = absurd (full_not j j' (meant_same j j' a a') d d')
  sent_same l m (lacking j a c d f) (kept j' a' c' d' o q x u v t) = absurd (full_not j j' (meant_same j j' a a') d d')
  sent_same l m (dropped j a c d o p f) (nowhere y e) = absurd (y j a c)
  sent_same l m (dropped j a c d o p f) (lacking j' a' c' d' f') = absurd (full_not j' j (meant_same j' j a' a) d' d)
  sent_same l m (dropped j a c d o p f) (dropped j' a' c' d' o' p' f') = f ∙ sym f'
  sent_same l m (dropped j a c d o p f) (kept j' a' c' d' o' q x u v t) =
      let e = meant_same j j' a a' in let e' = o' o in absurd (let z : ⊥ = omega arith in z)
  sent_same l m (kept j a c d o q x u v t) (nowhere y e) = absurd (y j a c)
  sent_same l m (kept j a c d o q x u v t) (lacking j' a' c' d' f') = absurd (full_not j' j (meant_same j' j a' a) d' d)
  sent_same l m (kept j a c d o q x u v t) (dropped j' a' c' d' o' p f') =
      let e = meant_same j j' a a' in let e' = o o' in absurd (let z : ⊥ = omega arith in z)
  sent_same l m (kept j a c d o q x u v t) (kept j' a' c' d' o' q' x' u' v' t') =
      sink_same l m (x ∙ sym x') (kept_same k.out j' b l.out m.out (subst (λ i. Kept k.out i b l.out) (meant_same j j' a a') q) q') (u ∙ sym u') (v ∙ sym v') (t ∙ sym t')

sent_in : (n : Option Window) (k l m : SinkPipe) (s : ℕ) (b : List ℕ) → sounds n ≡ true → SentIn n k s b l → SentIn n k s b m → l ≡ m
sent_in None k l m s b h x y = x ∙ sym y
sent_in (Some w) k l m s b h x y = sent_same w k s b h l m x y

send_fixed : (i j k : SinkPipe) (p n : ℕ) (b : List ℕ) → sounds i.out.numbers ≡ true → SinkSent i p n b j → SinkSent i p n b k → j ≡ k
send_fixed i j k zero n b h x y = sent_in i.out.numbers i j k n b h x y
send_fixed i j k (suc p) n b h x y = x ∙ sym y

word_of : (a : Collected) (v : ℕ) → a ≡ collected.Vector v → Word a → v < 2 ^ 32
word_of a v e h = subst Word e h

vectors_same : (w : Window) (o : Out) (a c : Collected) → Word a → Word c
    → ((v : ℕ) × Vector w (length o.taken) o.early v × (a ≡ collected.Vector v)) → ((v : ℕ) × Vector w (length o.taken) o.early v × (c ≡ collected.Vector v)) → a ≡ c
vectors_same w o a c ha hc x y =
    x.2 ∙ ap collected.Vector (vector_same w (length o.taken) o.early x.0 y.0 (word_of a x.0 x.2 ha) (word_of c y.0 y.2 hc) x.1 y.1) ∙ sym y.2

answers_same : (n : Since) (w : Window) (o : Out) (a c : Collected) → Word a → Word c → Answers n w o a → Answers n w o c → a ≡ c
answers_same Lacking w o a c ha hc x y = x ∙ sym y
answers_same Nothing w o a c ha hc x y = vectors_same w o a c ha hc x y
answers_same Otherwise w o a c ha hc x y = vectors_same w o a c ha hc x y

collected_in : (n : Option Window) (i j k : SinkPipe) (a c : Collected) → Word a → Word c → CollectedIn n i a j → CollectedIn n i c k → (a ≡ c) × (j ≡ k)
collected_in None i j k a c ha hc x y = (x.0 ∙ sym y.0, x.1 ∙ sym y.1)
collected_in (Some w) i j k a c ha hc x y = (answers_same i.since w i.out a c ha hc x.0 y.0, x.1 ∙ sym y.1)

collect_fixed : (i j k : SinkPipe) (p : ℕ) (a c : Collected) → Word a → Word c → SinkCollected i p a j → SinkCollected i p c k → (a ≡ c) × (j ≡ k)
collect_fixed i j k zero a c ha hc x y = collected_in i.out.numbers i j k a c ha hc x y
collect_fixed i j k (suc p) a c ha hc x y = (x.0 ∙ sym y.0, x.1 ∙ sym y.1)

pub sinks_fixed : SinksFixed
sinks_fixed = record {
  restart = sink_restart;
  poll = λ i j k p b a c x y. (x.0 ∙ sym y.0, x.1 ∙ sym y.1);
  fetch = λ i j k p n a c x y. (x.0 ∙ sym y.0, x.1 ∙ sym y.1);
  send = send_fixed;
  collect = collect_fixed;
}

pub no_gaps : NoGaps
no_gaps s = solo_gapless _

pub plain_in_order : PlainInOrder
plain_in_order s e k = plain_none s.ahead (length (taken_in s.store)) k e
