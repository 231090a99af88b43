-- The two kinds of buffer. Every definition that goes by the kind uses this one.
use Rattle.memory.specs.declared.buffer.Kind.{Kind}
use Rattle.memory.specs.declared.buffer.Kind.TheVariants.{Direct, Listed}

-- what is said of a direct buffer, and what of a listed one
abbrev pub each {ℓ} : {X : Type ℓ} → Kind → X → X → X
each Direct d l = d
each Listed d l = l
