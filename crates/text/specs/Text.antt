-- A text that is put into a buffer byte by byte: it stands from 0 up to a count. What finds no room is left out. Assumes nothing.
use Rattle.std.specs.Prelude.{◌≡◌, ℕ, ◌+◌, cond, List, [], ◌∷◌, ◌++◌, ltb, length, take, drop, set}

-- how far the text goes, and the buffer
pub record Text : Type 0 where
  pub count : ℕ
  pub buffer : List ℕ

abbrev pub text_of : (count : ℕ) (buffer : List ℕ) → Text
text_of count buffer = record { count = count; buffer = buffer }

-- one more byte, where there is room
abbrev pub put_byte : ℕ → Text → Text
put_byte b t = text_of (cond (ltb t.count (length t.buffer)) (t.count + 1) t.count) (set t.buffer t.count b)

unfoldable pub put_bytes : List ℕ → Text → Text
put_bytes [] t = t
put_bytes (b ∷ bs) t = put_bytes bs (put_byte b t)

-- the second text is the first one with these bytes
pub record Put (bytes : List ℕ) (t u : Text) : Type 0 where
  pub is : u ≡ put_bytes bytes t

-- as many of the bytes as there is room for, and behind them what the buffer has there
unfoldable pub written : (bytes buffer : List ℕ) → Text
written bytes buffer = let fitting = take (length buffer) bytes in text_of (length fitting) (fitting ++ drop (length fitting) buffer)
