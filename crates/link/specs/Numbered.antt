-- The numbers of a term, where code keeps them as a window that is known to be sound.
use Rattle.std.specs.Prelude.{◌≡◌, true, refl, Some, None, Option}
use Rattle.link.specs.declared.term.Window.{Window}
use Rattle.link.specs.declared.term.SoundWindow.{SoundWindow}
use Rattle.link.specs.Bounds.{sounds}

-- the numbers of a term, if one began
abbrev pub numbers_of : Option SoundWindow → Option Window
numbers_of None = None
numbers_of (Some w) = Some w.window

-- they are within their bounds
pub numbers_sound : (n : Option SoundWindow) → sounds (numbers_of n) ≡ true
numbers_sound None = refl
numbers_sound (Some w) = w.within
