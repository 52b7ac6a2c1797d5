-- Two answers that meet a promise of the form `answer ≡ definition of the inputs` are equal, and so are two that leave a lent buffer as a definition says.
-- Every such promise has its uniqueness by this one law, at the type of its answer. Assumes nothing.
use mathlib.Core.Path.{◌≡◌, sym, ◌∙◌}

pub answer_unique : {A : Type 0} {definition a b : A} → a ≡ definition → b ≡ definition → a ≡ b
answer_unique p q = p ∙ sym q

-- the same of an answer together with the bytes that a lent buffer holds afterwards
pub answer_and_bytes_unique : {A B : Type 0} {answer a b : A} {bytes x y : B} → (a ≡ answer) × (x ≡ bytes) → (b ≡ answer) × (y ≡ bytes) → (a ≡ b) × (x ≡ y)
answer_and_bytes_unique p q = (answer_unique p.0 q.0, answer_unique p.1 q.1)
