-- A run of the composer: calls one after another, each given the state that the last one gave.
use Rattle.std.specs.Prelude.{ℕ, cond, List, [], ◌∷◌, ◌++◌, eqb, length}
use Rattle.setting.specs.declared.Kind.{Kind}
use Rattle.setting.specs.declared.Setting.{Setting}
use Rattle.setting.specs.Setting.{OfItsTypes}
use Rattle.composer.specs.Composing.{Composer, begin_refusal, put_refusal, close_refusal, fresh, begin_of, begun_frame, put_of, put_frame, close_of, closed_frame}

-- a call of a run. A begin lends a buffer and a setting, a put a stream and its number. Put and close lend the buffer of the
-- frame that was begun last, as the calls before left it
pub data Call : Type 0 where
  begin : List ℕ → Setting → Call
  put : List ℕ → ℕ → Call
  close : Call

-- what the code's types say of the settings that a call is given
abbrev pub OfTypes : Call → Type 0
OfTypes (begin buffer s) = OfItsTypes s
OfTypes (put stream r) = Unit {0}
OfTypes close = Unit {0}

-- each element has the property
pub data Each {A : Type 0} (P : A → Type 0) : List A → Type 0 where
  none : Each P []
  more : {x : A} {xs : List A} → P x → Each P xs → Each P (x ∷ xs)

-- the state, and the buffer of the frame that was begun last
pub record Run : Type 0 where
  pub state : Composer
  pub frame : List ℕ

unfoldable pub started : Kind → ℕ → Run
started kind pid = record { state = fresh kind pid; frame = [] }

-- the number that a call answers
unfoldable pub refusal_of : Run → Call → ℕ
refusal_of w (begin buffer s) = begin_refusal w.state s (length buffer)
refusal_of w (put stream r) = put_refusal w.state r stream (length w.frame)
refusal_of w close = close_refusal w.state (length w.frame)

-- the run after a call
unfoldable pub after : Run → Call → Run
after w (begin buffer s) =
    record {
      state = (begin_of w.state s (length buffer)).state;
      frame = cond (eqb (refusal_of w (begin buffer s)) 0) (begun_frame w.state s buffer) w.frame;
    }
after w (put stream r) =
    record {
      state = (put_of w.state r stream (length w.frame)).state;
      frame = put_frame w.state r stream w.frame;
    }
after w close =
    record { state = (close_of w.state (length w.frame)).state; frame = closed_frame w.state w.frame }

-- the frame that a call closed, if it is a close and was not refused
unfoldable pub closed_by : Run → Call → List (List ℕ)
closed_by w (begin buffer s) = []
closed_by w (put stream r) = []
closed_by w close = cond (eqb (refusal_of w close) 0) (closed_frame w.state w.frame ∷ []) []

-- the frames that the calls closed, in order
unfoldable pub frames_of : Run → List Call → List (List ℕ)
frames_of w [] = []
frames_of w (c ∷ cs) = closed_by w c ++ frames_of (after w c) cs
