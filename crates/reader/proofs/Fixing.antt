-- Each call of the reader has one answer and one outcome.
use Rattle.std.proofs.Common.{◌≡◌, ℕ, zero, suc, cond, ltb, List, Some, None, Option, sym, refl, ap, ◌∙◌, inl, inr, arith}
use Rattle.link.specs.declared.term.Window.{Window}
use Rattle.link.specs.declared.answers.PollAnswer.{PollAnswer}
use Rattle.link.specs.declared.answers.PollAnswer.TheVariants.{Data, NotReady}
use Rattle.link.specs.Meaning.{In, moved, count}
use Rattle.link.proofs.Once.{aim_once}
use Rattle.link.proofs.Solo.{solo_gapless}
use Rattle.reader.specs.Readers.{PolledIn, FetchedIn, ReaderPolled, ReaderRestarted, ReaderFetched}
use Rattle.reader.specs.Fixed.{ReaderFixed, NoGaps}

polled_same : (n : Option Window) (i j k : In) (b : ℕ) (a c : PollAnswer) → PolledIn n i b a j → PolledIn n i b c k → (a ≡ c) × (j ≡ k)
polled_same None i j k b a c x y = (x.0 ∙ sym y.0, x.1 ∙ sym y.1)
polled_same (Some w) i j k b a c (inl x) (inl y) = (x.0 ∙ sym y.0, x.1 ∙ sym y.1)
polled_same (Some w) i j k b a c (inl x) (inr y) = absurd (let l = x.2 y.0 y.1 in let m = y.2 in let z : ⊥ = omega arith in z)
polled_same (Some w) i j k b a c (inr x) (inl y) = absurd (let l = y.2 x.0 x.1 in let m = x.2 in let z : ⊥ = omega arith in z)
polled_same (Some w) i j k b a c (inr x) (inr y) =
    let e = aim_once w.range b i.place x.0 y.0 x.1 y.1 in
    (x.3 ∙ ap (λ v. cond (ltb v (count w i)) Data NotReady) e ∙ sym y.3, x.4 ∙ ap (λ v. moved i v) e ∙ sym y.4)

fetched_same : (n : Option Window) (i : In) (k : ℕ) (a c : Option (List ℕ)) → FetchedIn n i k a → FetchedIn n i k c → a ≡ c
fetched_same None i k a c x y = x ∙ sym y
fetched_same (Some w) i k None None x y = refl
fetched_same (Some w) i k None (Some bs) x y = absurd (x bs y)
fetched_same (Some w) i k (Some bs) None x y = absurd (y bs x)
fetched_same (Some w) i k (Some bs) (Some cs) x y = ap Some (x.is ∙ sym y.is)

poll_fixed : (i j k : In) (p b : ℕ) (a c : PollAnswer) → ReaderPolled i p b a j → ReaderPolled i p b c k → (a ≡ c) × (j ≡ k)
poll_fixed i j k zero b a c x y = polled_same i.numbers i j k b a c x y
poll_fixed i j k (suc p) b a c x y = (x.0 ∙ sym y.0, x.1 ∙ sym y.1)

restart_fixed : (i j k : In) (p : ℕ) (w : Window) → ReaderRestarted i p w j → ReaderRestarted i p w k → j ≡ k
restart_fixed i j k zero w x y = x ∙ sym y
restart_fixed i j k (suc p) w x y = x ∙ sym y

fetch_fixed : (i j k : In) (p n : ℕ) (a c : Option (List ℕ)) → ReaderFetched i p n a j → ReaderFetched i p n c k → (a ≡ c) × (j ≡ k)
fetch_fixed i j k zero n a c x y = (fetched_same i.numbers i n a c x.0 y.0, x.1 ∙ sym y.1)
fetch_fixed i j k (suc p) n a c x y = (x.0 ∙ sym y.0, x.1 ∙ sym y.1)

pub reader_fixed : ReaderFixed
reader_fixed = record {
  restart = restart_fixed;
  poll = poll_fixed;
  fetch = fetch_fixed;
  send = λ i j k p n b x y. x ∙ sym y;
  collect = λ i j k p a c x y. (x.0 ∙ sym y.0, x.1 ∙ sym y.1);
}

pub no_gaps : NoGaps
no_gaps s = solo_gapless _
