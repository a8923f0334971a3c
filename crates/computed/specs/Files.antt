-- Whole calls over the bytes of a file, computed by the prover: written, read, printed, made, stepped, filtered, run; and three steps one by one and in a run.
-- The numbers are the second program's: tests/compare/computed writes this file from tests/compare/calls.txt, and asks again in the tests.
-- A channel is its counts N, X, T, accepted, wanted and its rows h, e, u, V, Q, F, damping; an answer is number, stage, place and count.
use Rattle.std.specs.Prelude.{ℕ, ◌+◌, ◌≡◌, refl, List, [], ◌∷◌, ◌++◌, pos, length, replicate, take, drop}
use Rattle.rule.specs.declared.Answer.{Answer}
use Rattle.rule.specs.Rows.{minus}
use Rattle.rule.specs.Channel.{Channel, channel}
use Rattle.rule.specs.Refusals.{done}
use Rattle.rule.specs.File.{file_of}
use Rattle.rule.specs.Calls.{read_call, write_call, read, run_file, print_file, check_file, step_file, filter_file, run_for_file, make_file}
use Rattle.rule.specs.Alike.{counts, lists, channels, alike, done_alike}
use Rattle.rule.specs.Opened.{opened}
use Rattle.computed.specs.Channels.{run_paused_before}
use Rattle.rule.specs.Computed.{answers, onto, thrice}

-- number, stage, place and count
abbrev says : ℕ → ℕ → ℕ → ℕ → Answer
says number stage place count = record { number = number; stage = stage; place = place; count = count }

-- a file: its counts, where its rows stand, and its rows h, e, u, V, Q, F, damping
abbrev assembled : List ℕ → List ℕ → List ℕ → List ℕ → List ℕ → List ℕ → List ℕ → List ℕ → List ℕ → List ℕ
assembled counts places h e u v Q F damping = counts ++ (places ++ (h ++ (e ++ (u ++ (v ++ (Q ++ (F ++ damping)))))))

-- so many bytes of a file, from a place on
abbrev part : ℕ → ℕ → List ℕ → List ℕ
part place count file = take count (drop place file)

-- a file with other bytes from a place on
abbrev replaced : ℕ → List ℕ → List ℕ → List ℕ
replaced place new file = take place file ++ (new ++ drop (place + length new) file)

-- where the rows of 8 cells stand in a file
abbrev places_of_8 : List ℕ
places_of_8 =
    52 ∷ 0 ∷ 0 ∷ 0 ∷ 84 ∷ 0 ∷ 0 ∷ 0 ∷ 116 ∷ 0 ∷ 0 ∷ 0 ∷ 148 ∷ 0 ∷ 0 ∷ 0 ∷
    180 ∷ 0 ∷ 0 ∷ 0 ∷ 92 ∷ 1 ∷ 0 ∷ 0 ∷ 28 ∷ 2 ∷ 0 ∷ 0 ∷ []

-- the file of a channel
abbrev write_uneven_file : List ℕ
write_uneven_file =
    assembled
    (2 ∷ 0 ∷ 0 ∷ 0 ∷ 8 ∷ 0 ∷ 0 ∷ 0 ∷ 232 ∷ 3 ∷ 0 ∷ 0 ∷ 20 ∷ 0 ∷ 0 ∷ 0 ∷
    0 ∷ 0 ∷ 0 ∷ 0 ∷ 3 ∷ 0 ∷ 0 ∷ 0 ∷ [])
    places_of_8
    (67 ∷ 1 ∷ 0 ∷ 0 ∷ 43 ∷ 1 ∷ 0 ∷ 0 ∷ 63 ∷ 1 ∷ 0 ∷ 0 ∷ 74 ∷ 1 ∷ 0 ∷ 0 ∷
    29 ∷ 1 ∷ 0 ∷ 0 ∷ 55 ∷ 1 ∷ 0 ∷ 0 ∷ 17 ∷ 1 ∷ 0 ∷ 0 ∷ 71 ∷ 1 ∷ 0 ∷ 0 ∷ [])
    (109 ∷ 231 ∷ 255 ∷ 255 ∷ 134 ∷ 8 ∷ 0 ∷ 0 ∷ 250 ∷ 20 ∷ 0 ∷ 0 ∷ 127 ∷ 248 ∷ 255 ∷ 255 ∷
    172 ∷ 9 ∷ 0 ∷ 0 ∷ 137 ∷ 30 ∷ 0 ∷ 0 ∷ 253 ∷ 229 ∷ 255 ∷ 255 ∷ 102 ∷ 34 ∷ 0 ∷ 0 ∷ [])
    (50 ∷ 252 ∷ 255 ∷ 255 ∷ 241 ∷ 1 ∷ 0 ∷ 0 ∷ 211 ∷ 253 ∷ 255 ∷ 255 ∷ 91 ∷ 255 ∷ 255 ∷ 255 ∷
    84 ∷ 254 ∷ 255 ∷ 255 ∷ 140 ∷ 253 ∷ 255 ∷ 255 ∷ 108 ∷ 3 ∷ 0 ∷ 0 ∷ 8 ∷ 3 ∷ 0 ∷ 0 ∷ [])
    (169 ∷ 251 ∷ 255 ∷ 255 ∷ 79 ∷ 2 ∷ 0 ∷ 0 ∷ 156 ∷ 253 ∷ 255 ∷ 255 ∷ 114 ∷ 255 ∷ 255 ∷ 255 ∷
    86 ∷ 254 ∷ 255 ∷ 255 ∷ 79 ∷ 253 ∷ 255 ∷ 255 ∷ 152 ∷ 3 ∷ 0 ∷ 0 ∷ 77 ∷ 3 ∷ 0 ∷ 0 ∷ [])
    (thrice (172 ∷ 133 ∷ 196 ∷ 249 ∷ 255 ∷ 255 ∷ 255 ∷ 255 ∷ 220 ∷ 43 ∷ 195 ∷ 0 ∷ 0 ∷ 0 ∷ 0 ∷ 0 ∷
    135 ∷ 157 ∷ 169 ∷ 247 ∷ 255 ∷ 255 ∷ 255 ∷ 255 ∷ 22 ∷ 172 ∷ 196 ∷ 251 ∷ 255 ∷ 255 ∷ 255 ∷ 255 ∷
    22 ∷ 7 ∷ 201 ∷ 243 ∷ 255 ∷ 255 ∷ 255 ∷ 255 ∷ 137 ∷ 214 ∷ 111 ∷ 0 ∷ 0 ∷ 0 ∷ 0 ∷ 0 ∷
    141 ∷ 19 ∷ 155 ∷ 19 ∷ 0 ∷ 0 ∷ 0 ∷ 0 ∷ []))
    (thrice (184 ∷ 49 ∷ 255 ∷ 255 ∷ 255 ∷ 255 ∷ 255 ∷ 255 ∷ 13 ∷ 228 ∷ 254 ∷ 255 ∷ 255 ∷ 255 ∷ 255 ∷ 255 ∷
    208 ∷ 132 ∷ 0 ∷ 0 ∷ 0 ∷ 0 ∷ 0 ∷ 0 ∷ 237 ∷ 91 ∷ 0 ∷ 0 ∷ 0 ∷ 0 ∷ 0 ∷ 0 ∷
    208 ∷ 224 ∷ 254 ∷ 255 ∷ 255 ∷ 255 ∷ 255 ∷ 255 ∷ 161 ∷ 11 ∷ 1 ∷ 0 ∷ 0 ∷ 0 ∷ 0 ∷ 0 ∷
    242 ∷ 250 ∷ 255 ∷ 255 ∷ 255 ∷ 255 ∷ 255 ∷ 255 ∷ 178 ∷ 70 ∷ 254 ∷ 255 ∷ 255 ∷ 255 ∷ 255 ∷ 255 ∷ []))
    (replicate 32 0)

pub write_uneven : write_call run_paused_before (replicate 572 0) ≡ answers 0 0 0 0 write_uneven_file
unfolding opened
write_uneven =
    alike (lists counts)
    (write_call run_paused_before (replicate 572 0))
    (answers 0 0 0 0 write_uneven_file) tt

-- and the channel of that file
pub write_uneven_read : read write_uneven_file ≡ done run_paused_before
unfolding opened
write_uneven_read = done_alike channels (read write_uneven_file) run_paused_before tt

-- the line of an open channel
abbrev print_open_before : Channel
print_open_before =
    channel 8 1000 20 0 10
    (replicate 8 (pos 300))
    (replicate 8 (pos 7))
    (replicate 8 (pos 0))
    (replicate 8 (pos 0))
    (replicate 21 (pos 0))
    (replicate 24 (pos 0))
    (replicate 8 (pos 0))

-- "8 0 10 open 56" and a newline
abbrev print_open_line : List ℕ
print_open_line = 56 ∷ 32 ∷ 48 ∷ 32 ∷ 49 ∷ 48 ∷ 32 ∷ 111 ∷ 112 ∷ 101 ∷ 110 ∷ 32 ∷ 53 ∷ 54 ∷ 10 ∷ []

pub print_open : print_file (file_of print_open_before) ≡ print_open_line
unfolding opened
print_open = (lists counts).sound (print_file (file_of print_open_before)) print_open_line tt

-- the line of a complete channel whose heights add up to less than zero
abbrev print_done_before : Channel
print_done_before =
    channel 9 1000 20 1000000 1000000
    (replicate 9 (pos 20000))
    (minus 19000000 ∷ pos 5 ∷ pos 0 ∷ minus 1 ∷ pos 0 ∷ pos 0 ∷ pos 0 ∷ pos 0 ∷ minus 12000000 ∷ [])
    (replicate 9 (pos 0))
    (replicate 9 (pos 0))
    (replicate 24 (pos 0))
    (replicate 27 (pos 0))
    (replicate 9 (pos 0))

-- "9 1000000 1000000 done -30999996" and a newline
abbrev print_done_line : List ℕ
print_done_line =
    57 ∷ 32 ∷ 49 ∷ 48 ∷ 48 ∷ 48 ∷ 48 ∷ 48 ∷ 48 ∷ 32 ∷ 49 ∷ 48 ∷ 48 ∷ 48 ∷ 48 ∷ 48 ∷
    48 ∷ 32 ∷ 100 ∷ 111 ∷ 110 ∷ 101 ∷ 32 ∷ 45 ∷ 51 ∷ 48 ∷ 57 ∷ 57 ∷ 57 ∷ 57 ∷ 57 ∷ 54 ∷
    10 ∷ []

pub print_done : print_file (file_of print_done_before) ≡ print_done_line
unfolding opened
print_done = (lists counts).sound (print_file (file_of print_done_before)) print_done_line tt

-- the line of a file that is refused: T is 101
abbrev print_refused_before : Channel
print_refused_before =
    channel 8 1000 101 0 10
    (replicate 8 (pos 300))
    (replicate 8 (pos 7))
    (replicate 8 (pos 0))
    (replicate 8 (pos 0))
    (replicate 21 (pos 0))
    (replicate 24 (pos 0))
    (replicate 8 (pos 0))

-- "refused 2" and a newline
abbrev print_refused_line : List ℕ
print_refused_line = 114 ∷ 101 ∷ 102 ∷ 117 ∷ 115 ∷ 101 ∷ 100 ∷ 32 ∷ 50 ∷ 10 ∷ []

pub print_refused : print_file (file_of print_refused_before) ≡ print_refused_line
unfolding opened
print_refused = (lists counts).sound (print_file (file_of print_refused_before)) print_refused_line tt

-- from the bytes of the rows to the bytes of a file
abbrev file_made_depths : List ℕ
file_made_depths =
    54 ∷ 1 ∷ 0 ∷ 0 ∷ 96 ∷ 1 ∷ 0 ∷ 0 ∷ 42 ∷ 1 ∷ 0 ∷ 0 ∷ 149 ∷ 1 ∷ 0 ∷ 0 ∷
    121 ∷ 1 ∷ 0 ∷ 0 ∷ 75 ∷ 1 ∷ 0 ∷ 0 ∷ 33 ∷ 1 ∷ 0 ∷ 0 ∷ 88 ∷ 1 ∷ 0 ∷ 0 ∷ []

abbrev file_made_heights : List ℕ
file_made_heights =
    8 ∷ 47 ∷ 0 ∷ 0 ∷ 115 ∷ 224 ∷ 255 ∷ 255 ∷ 235 ∷ 11 ∷ 0 ∷ 0 ∷ 241 ∷ 255 ∷ 255 ∷ 255 ∷
    176 ∷ 38 ∷ 0 ∷ 0 ∷ 165 ∷ 228 ∷ 255 ∷ 255 ∷ 169 ∷ 97 ∷ 0 ∷ 0 ∷ 46 ∷ 209 ∷ 255 ∷ 255 ∷ []

abbrev file_made_velocities : List ℕ
file_made_velocities =
    220 ∷ 5 ∷ 0 ∷ 0 ∷ 255 ∷ 169 ∷ 255 ∷ 255 ∷ 73 ∷ 35 ∷ 0 ∷ 0 ∷ 75 ∷ 156 ∷ 0 ∷ 0 ∷
    77 ∷ 242 ∷ 255 ∷ 255 ∷ 12 ∷ 0 ∷ 0 ∷ 0 ∷ 127 ∷ 185 ∷ 255 ∷ 255 ∷ 89 ∷ 27 ∷ 0 ∷ 0 ∷ []

abbrev file_made_after : List ℕ
file_made_after =
    assembled
    (2 ∷ 0 ∷ 0 ∷ 0 ∷ 8 ∷ 0 ∷ 0 ∷ 0 ∷ 244 ∷ 1 ∷ 0 ∷ 0 ∷ 50 ∷ 0 ∷ 0 ∷ 0 ∷
    0 ∷ 0 ∷ 0 ∷ 0 ∷ 4 ∷ 0 ∷ 0 ∷ 0 ∷ [])
    places_of_8
    file_made_depths
    file_made_heights
    file_made_velocities
    (196 ∷ 23 ∷ 0 ∷ 0 ∷ 103 ∷ 130 ∷ 255 ∷ 255 ∷ 174 ∷ 27 ∷ 0 ∷ 0 ∷ 173 ∷ 233 ∷ 0 ∷ 0 ∷
    15 ∷ 198 ∷ 255 ∷ 255 ∷ 209 ∷ 12 ∷ 0 ∷ 0 ∷ 161 ∷ 162 ∷ 255 ∷ 255 ∷ 173 ∷ 52 ∷ 0 ∷ 0 ∷ [])
    (thrice (78 ∷ 204 ∷ 62 ∷ 244 ∷ 254 ∷ 255 ∷ 255 ∷ 255 ∷ 181 ∷ 77 ∷ 142 ∷ 243 ∷ 254 ∷ 255 ∷ 255 ∷ 255 ∷
    220 ∷ 48 ∷ 68 ∷ 223 ∷ 2 ∷ 0 ∷ 0 ∷ 0 ∷ 145 ∷ 184 ∷ 10 ∷ 7 ∷ 2 ∷ 0 ∷ 0 ∷ 0 ∷
    158 ∷ 183 ∷ 12 ∷ 144 ∷ 255 ∷ 255 ∷ 255 ∷ 255 ∷ 70 ∷ 80 ∷ 44 ∷ 52 ∷ 255 ∷ 255 ∷ 255 ∷ 255 ∷
    126 ∷ 96 ∷ 115 ∷ 154 ∷ 255 ∷ 255 ∷ 255 ∷ 255 ∷ []))
    (thrice (18 ∷ 75 ∷ 4 ∷ 0 ∷ 0 ∷ 0 ∷ 0 ∷ 0 ∷ 143 ∷ 126 ∷ 1 ∷ 0 ∷ 0 ∷ 0 ∷ 0 ∷ 0 ∷
    126 ∷ 83 ∷ 254 ∷ 255 ∷ 255 ∷ 255 ∷ 255 ∷ 255 ∷ 231 ∷ 171 ∷ 254 ∷ 255 ∷ 255 ∷ 255 ∷ 255 ∷ 255 ∷
    144 ∷ 240 ∷ 1 ∷ 0 ∷ 0 ∷ 0 ∷ 0 ∷ 0 ∷ 47 ∷ 176 ∷ 252 ∷ 255 ∷ 255 ∷ 255 ∷ 255 ∷ 255 ∷
    126 ∷ 115 ∷ 0 ∷ 0 ∷ 0 ∷ 0 ∷ 0 ∷ 0 ∷ 226 ∷ 45 ∷ 8 ∷ 0 ∷ 0 ∷ 0 ∷ 0 ∷ 0 ∷ []))
    (replicate 32 0)

pub file_made :
    make_file 8 500 50 4 file_made_depths file_made_heights file_made_velocities (replicate 32 0) (replicate 572 0)
    ≡ answers 0 0 0 0 file_made_after
unfolding opened
file_made =
    alike (lists counts)
    (make_file 8 500 50 4 file_made_depths file_made_heights file_made_velocities (replicate 32 0) (replicate 572 0))
    (answers 0 0 0 0 file_made_after) tt

-- a buffer that is one byte short is refused with 15, and left as it was
pub file_no_room :
    make_file 8 500 50 4 file_made_depths file_made_heights file_made_velocities (replicate 32 0) (replicate 571 0)
    ≡ answers 15 0 0 0 (replicate 571 0)
unfolding opened
file_no_room =
    alike (lists counts)
    (make_file 8 500 50 4 file_made_depths file_made_heights file_made_velocities (replicate 32 0) (replicate 571 0))
    (answers 15 0 0 0 (replicate 571 0)) tt

-- a dry cell (4) is told before a buffer of the wrong length (15)
abbrev file_dry_no_room_heights : List ℕ
file_dry_no_room_heights =
    8 ∷ 47 ∷ 0 ∷ 0 ∷ 115 ∷ 224 ∷ 255 ∷ 255 ∷ 235 ∷ 11 ∷ 0 ∷ 0 ∷ 241 ∷ 255 ∷ 255 ∷ 255 ∷
    176 ∷ 38 ∷ 0 ∷ 0 ∷ 165 ∷ 228 ∷ 255 ∷ 255 ∷ 169 ∷ 97 ∷ 0 ∷ 0 ∷ 39 ∷ 196 ∷ 250 ∷ 255 ∷ []

pub file_dry_no_room :
    make_file 8 500 50 4 file_made_depths file_dry_no_room_heights file_made_velocities (replicate 32 0) (replicate 571 0)
    ≡ answers 4 0 8 0 (replicate 571 0)
unfolding opened
file_dry_no_room =
    alike (lists counts)
    (make_file 8 500 50 4 file_made_depths file_dry_no_room_heights file_made_velocities (replicate 32 0) (replicate 571 0))
    (answers 4 0 8 0 (replicate 571 0)) tt

-- the file that was made, after a step with a poured row
abbrev file_stepped_poured : List ℕ
file_stepped_poured =
    212 ∷ 0 ∷ 0 ∷ 0 ∷ 93 ∷ 2 ∷ 0 ∷ 0 ∷ 83 ∷ 1 ∷ 0 ∷ 0 ∷ 238 ∷ 1 ∷ 0 ∷ 0 ∷
    252 ∷ 253 ∷ 255 ∷ 255 ∷ 158 ∷ 252 ∷ 255 ∷ 255 ∷ 180 ∷ 253 ∷ 255 ∷ 255 ∷ 240 ∷ 0 ∷ 0 ∷ 0 ∷ []

abbrev file_stepped_after : List ℕ
file_stepped_after =
    assembled
    (2 ∷ 0 ∷ 0 ∷ 0 ∷ 8 ∷ 0 ∷ 0 ∷ 0 ∷ 244 ∷ 1 ∷ 0 ∷ 0 ∷ 50 ∷ 0 ∷ 0 ∷ 0 ∷
    1 ∷ 0 ∷ 0 ∷ 0 ∷ 4 ∷ 0 ∷ 0 ∷ 0 ∷ [])
    places_of_8
    file_made_depths
    (247 ∷ 48 ∷ 0 ∷ 0 ∷ 118 ∷ 227 ∷ 255 ∷ 255 ∷ 6 ∷ 7 ∷ 0 ∷ 0 ∷ 223 ∷ 2 ∷ 0 ∷ 0 ∷
    248 ∷ 40 ∷ 0 ∷ 0 ∷ 18 ∷ 226 ∷ 255 ∷ 255 ∷ 124 ∷ 93 ∷ 0 ∷ 0 ∷ 91 ∷ 210 ∷ 255 ∷ 255 ∷ [])
    (135 ∷ 45 ∷ 0 ∷ 0 ∷ 60 ∷ 188 ∷ 255 ∷ 255 ∷ 250 ∷ 18 ∷ 0 ∷ 0 ∷ 130 ∷ 143 ∷ 0 ∷ 0 ∷
    34 ∷ 255 ∷ 255 ∷ 255 ∷ 221 ∷ 228 ∷ 255 ∷ 255 ∷ 121 ∷ 194 ∷ 255 ∷ 255 ∷ 106 ∷ 94 ∷ 0 ∷ 0 ∷ [])
    (10 ∷ 78 ∷ 0 ∷ 0 ∷ 196 ∷ 151 ∷ 255 ∷ 255 ∷ 87 ∷ 6 ∷ 0 ∷ 0 ∷ 11 ∷ 214 ∷ 0 ∷ 0 ∷
    186 ∷ 224 ∷ 255 ∷ 255 ∷ 118 ∷ 228 ∷ 255 ∷ 255 ∷ 47 ∷ 167 ∷ 255 ∷ 255 ∷ 151 ∷ 155 ∷ 0 ∷ 0 ∷ [])
    (onto (92 ∷ 62 ∷ 69 ∷ 186 ∷ 255 ∷ 255 ∷ 255 ∷ 255 ∷ 198 ∷ 49 ∷ 142 ∷ 244 ∷ 254 ∷ 255 ∷ 255 ∷ 255 ∷
    106 ∷ 157 ∷ 137 ∷ 115 ∷ 2 ∷ 0 ∷ 0 ∷ 0 ∷ 5 ∷ 55 ∷ 194 ∷ 26 ∷ 2 ∷ 0 ∷ 0 ∷ 0 ∷
    121 ∷ 120 ∷ 241 ∷ 113 ∷ 255 ∷ 255 ∷ 255 ∷ 255 ∷ 201 ∷ 26 ∷ 8 ∷ 215 ∷ 254 ∷ 255 ∷ 255 ∷ 255 ∷
    176 ∷ 162 ∷ 147 ∷ 174 ∷ 0 ∷ 0 ∷ 0 ∷ 0 ∷ [])
    (drop 180 file_made_after))
    (onto (38 ∷ 48 ∷ 4 ∷ 0 ∷ 0 ∷ 0 ∷ 0 ∷ 0 ∷ 18 ∷ 216 ∷ 1 ∷ 0 ∷ 0 ∷ 0 ∷ 0 ∷ 0 ∷
    173 ∷ 86 ∷ 254 ∷ 255 ∷ 255 ∷ 255 ∷ 255 ∷ 255 ∷ 241 ∷ 66 ∷ 254 ∷ 255 ∷ 255 ∷ 255 ∷ 255 ∷ 255 ∷
    90 ∷ 58 ∷ 2 ∷ 0 ∷ 0 ∷ 0 ∷ 0 ∷ 0 ∷ 68 ∷ 1 ∷ 253 ∷ 255 ∷ 255 ∷ 255 ∷ 255 ∷ 255 ∷
    188 ∷ 66 ∷ 0 ∷ 0 ∷ 0 ∷ 0 ∷ 0 ∷ 0 ∷ 1 ∷ 231 ∷ 7 ∷ 0 ∷ 0 ∷ 0 ∷ 0 ∷ 0 ∷ [])
    (drop 348 file_made_after))
    (replicate 32 0)

pub file_stepped : step_file file_made_after file_stepped_poured ≡ answers 0 0 0 3 file_stepped_after
unfolding opened
file_stepped =
    alike (lists counts)
    (step_file file_made_after file_stepped_poured)
    (answers 0 0 0 3 file_stepped_after) tt

-- that file after a filter pass
abbrev file_filtered_after : List ℕ
file_filtered_after =
    assembled
    (2 ∷ 0 ∷ 0 ∷ 0 ∷ 8 ∷ 0 ∷ 0 ∷ 0 ∷ 244 ∷ 1 ∷ 0 ∷ 0 ∷ 50 ∷ 0 ∷ 0 ∷ 0 ∷
    1 ∷ 0 ∷ 0 ∷ 0 ∷ 4 ∷ 0 ∷ 0 ∷ 0 ∷ [])
    places_of_8
    file_made_depths
    (137 ∷ 42 ∷ 0 ∷ 0 ∷ 82 ∷ 242 ∷ 255 ∷ 255 ∷ 254 ∷ 245 ∷ 255 ∷ 255 ∷ 107 ∷ 23 ∷ 0 ∷ 0 ∷
    134 ∷ 10 ∷ 0 ∷ 0 ∷ 226 ∷ 10 ∷ 0 ∷ 0 ∷ 1 ∷ 55 ∷ 0 ∷ 0 ∷ 134 ∷ 226 ∷ 255 ∷ 255 ∷ [])
    (170 ∷ 2 ∷ 0 ∷ 0 ∷ 33 ∷ 209 ∷ 255 ∷ 255 ∷ 56 ∷ 28 ∷ 0 ∷ 0 ∷ 68 ∷ 116 ∷ 0 ∷ 0 ∷
    136 ∷ 31 ∷ 0 ∷ 0 ∷ 197 ∷ 191 ∷ 255 ∷ 255 ∷ 236 ∷ 246 ∷ 255 ∷ 255 ∷ 127 ∷ 32 ∷ 0 ∷ 0 ∷ [])
    (47 ∷ 12 ∷ 0 ∷ 0 ∷ 67 ∷ 186 ∷ 255 ∷ 255 ∷ 39 ∷ 20 ∷ 0 ∷ 0 ∷ 214 ∷ 163 ∷ 0 ∷ 0 ∷
    1 ∷ 29 ∷ 0 ∷ 0 ∷ 176 ∷ 164 ∷ 255 ∷ 255 ∷ 64 ∷ 249 ∷ 255 ∷ 255 ∷ 206 ∷ 51 ∷ 0 ∷ 0 ∷ [])
    (onto (13 ∷ 123 ∷ 127 ∷ 102 ∷ 255 ∷ 255 ∷ 255 ∷ 255 ∷ 155 ∷ 35 ∷ 84 ∷ 112 ∷ 255 ∷ 255 ∷ 255 ∷ 255 ∷
    3 ∷ 33 ∷ 30 ∷ 12 ∷ 2 ∷ 0 ∷ 0 ∷ 0 ∷ 85 ∷ 189 ∷ 51 ∷ 57 ∷ 2 ∷ 0 ∷ 0 ∷ 0 ∷
    186 ∷ 104 ∷ 0 ∷ 105 ∷ 255 ∷ 255 ∷ 255 ∷ 255 ∷ 121 ∷ 19 ∷ 137 ∷ 2 ∷ 255 ∷ 255 ∷ 255 ∷ 255 ∷
    171 ∷ 87 ∷ 20 ∷ 122 ∷ 0 ∷ 0 ∷ 0 ∷ 0 ∷ [])
    (drop 180 file_made_after))
    (onto (85 ∷ 229 ∷ 2 ∷ 0 ∷ 0 ∷ 0 ∷ 0 ∷ 0 ∷ 45 ∷ 144 ∷ 2 ∷ 0 ∷ 0 ∷ 0 ∷ 0 ∷ 0 ∷
    227 ∷ 228 ∷ 253 ∷ 255 ∷ 255 ∷ 255 ∷ 255 ∷ 255 ∷ 101 ∷ 27 ∷ 255 ∷ 255 ∷ 255 ∷ 255 ∷ 255 ∷ 255 ∷
    37 ∷ 16 ∷ 1 ∷ 0 ∷ 0 ∷ 0 ∷ 0 ∷ 0 ∷ 13 ∷ 99 ∷ 253 ∷ 255 ∷ 255 ∷ 255 ∷ 255 ∷ 255 ∷
    211 ∷ 206 ∷ 1 ∷ 0 ∷ 0 ∷ 0 ∷ 0 ∷ 0 ∷ 129 ∷ 153 ∷ 4 ∷ 0 ∷ 0 ∷ 0 ∷ 0 ∷ 0 ∷ [])
    (drop 348 file_made_after))
    (replicate 32 0)

pub file_filtered : filter_file file_stepped_after ≡ answers 0 0 0 0 file_filtered_after
unfolding opened
file_filtered = alike (lists counts) (filter_file file_stepped_after) (answers 0 0 0 0 file_filtered_after) tt

-- and after two steps of a run, which pauses with 16: the channel is not complete
abbrev file_paused_after : List ℕ
file_paused_after =
    assembled
    (2 ∷ 0 ∷ 0 ∷ 0 ∷ 8 ∷ 0 ∷ 0 ∷ 0 ∷ 244 ∷ 1 ∷ 0 ∷ 0 ∷ 50 ∷ 0 ∷ 0 ∷ 0 ∷
    3 ∷ 0 ∷ 0 ∷ 0 ∷ 4 ∷ 0 ∷ 0 ∷ 0 ∷ [])
    places_of_8
    file_made_depths
    (31 ∷ 42 ∷ 0 ∷ 0 ∷ 57 ∷ 244 ∷ 255 ∷ 255 ∷ 21 ∷ 239 ∷ 255 ∷ 255 ∷ 121 ∷ 21 ∷ 0 ∷ 0 ∷
    115 ∷ 20 ∷ 0 ∷ 0 ∷ 237 ∷ 11 ∷ 0 ∷ 0 ∷ 51 ∷ 47 ∷ 0 ∷ 0 ∷ 186 ∷ 230 ∷ 255 ∷ 255 ∷ [])
    (2 ∷ 59 ∷ 0 ∷ 0 ∷ 203 ∷ 6 ∷ 0 ∷ 0 ∷ 31 ∷ 247 ∷ 255 ∷ 255 ∷ 60 ∷ 91 ∷ 0 ∷ 0 ∷
    21 ∷ 40 ∷ 0 ∷ 0 ∷ 29 ∷ 156 ∷ 255 ∷ 255 ∷ 191 ∷ 31 ∷ 0 ∷ 0 ∷ 72 ∷ 106 ∷ 0 ∷ 0 ∷ [])
    (87 ∷ 84 ∷ 0 ∷ 0 ∷ 58 ∷ 1 ∷ 0 ∷ 0 ∷ 171 ∷ 224 ∷ 255 ∷ 255 ∷ 23 ∷ 130 ∷ 0 ∷ 0 ∷
    13 ∷ 54 ∷ 0 ∷ 0 ∷ 85 ∷ 109 ∷ 255 ∷ 255 ∷ 44 ∷ 38 ∷ 0 ∷ 0 ∷ 143 ∷ 160 ∷ 0 ∷ 0 ∷ [])
    (onto (44 ∷ 140 ∷ 49 ∷ 223 ∷ 0 ∷ 0 ∷ 0 ∷ 0 ∷ 196 ∷ 208 ∷ 134 ∷ 173 ∷ 255 ∷ 255 ∷ 255 ∷ 255 ∷
    98 ∷ 83 ∷ 232 ∷ 42 ∷ 1 ∷ 0 ∷ 0 ∷ 0 ∷ 215 ∷ 45 ∷ 38 ∷ 28 ∷ 2 ∷ 0 ∷ 0 ∷ 0 ∷
    137 ∷ 77 ∷ 197 ∷ 25 ∷ 255 ∷ 255 ∷ 255 ∷ 255 ∷ 216 ∷ 238 ∷ 35 ∷ 220 ∷ 254 ∷ 255 ∷ 255 ∷ 255 ∷
    82 ∷ 225 ∷ 23 ∷ 3 ∷ 2 ∷ 0 ∷ 0 ∷ 0 ∷ [])
    (onto (223 ∷ 218 ∷ 44 ∷ 32 ∷ 0 ∷ 0 ∷ 0 ∷ 0 ∷ 135 ∷ 235 ∷ 154 ∷ 138 ∷ 255 ∷ 255 ∷ 255 ∷ 255 ∷
    43 ∷ 19 ∷ 154 ∷ 162 ∷ 1 ∷ 0 ∷ 0 ∷ 0 ∷ 40 ∷ 133 ∷ 140 ∷ 52 ∷ 2 ∷ 0 ∷ 0 ∷ 0 ∷
    115 ∷ 197 ∷ 169 ∷ 57 ∷ 255 ∷ 255 ∷ 255 ∷ 255 ∷ 243 ∷ 157 ∷ 226 ∷ 236 ∷ 254 ∷ 255 ∷ 255 ∷ 255 ∷
    189 ∷ 105 ∷ 40 ∷ 65 ∷ 1 ∷ 0 ∷ 0 ∷ 0 ∷ [])
    (drop 180 file_filtered_after)))
    (onto (66 ∷ 183 ∷ 2 ∷ 0 ∷ 0 ∷ 0 ∷ 0 ∷ 0 ∷ 172 ∷ 226 ∷ 2 ∷ 0 ∷ 0 ∷ 0 ∷ 0 ∷ 0 ∷
    235 ∷ 41 ∷ 254 ∷ 255 ∷ 255 ∷ 255 ∷ 255 ∷ 255 ∷ 13 ∷ 60 ∷ 254 ∷ 255 ∷ 255 ∷ 255 ∷ 255 ∷ 255 ∷
    100 ∷ 232 ∷ 0 ∷ 0 ∷ 0 ∷ 0 ∷ 0 ∷ 0 ∷ 85 ∷ 85 ∷ 254 ∷ 255 ∷ 255 ∷ 255 ∷ 255 ∷ 255 ∷
    96 ∷ 153 ∷ 1 ∷ 0 ∷ 0 ∷ 0 ∷ 0 ∷ 0 ∷ 238 ∷ 242 ∷ 3 ∷ 0 ∷ 0 ∷ 0 ∷ 0 ∷ 0 ∷ [])
    (onto (74 ∷ 223 ∷ 2 ∷ 0 ∷ 0 ∷ 0 ∷ 0 ∷ 0 ∷ 179 ∷ 197 ∷ 2 ∷ 0 ∷ 0 ∷ 0 ∷ 0 ∷ 0 ∷
    105 ∷ 251 ∷ 253 ∷ 255 ∷ 255 ∷ 255 ∷ 255 ∷ 255 ∷ 182 ∷ 168 ∷ 254 ∷ 255 ∷ 255 ∷ 255 ∷ 255 ∷ 255 ∷
    84 ∷ 0 ∷ 1 ∷ 0 ∷ 0 ∷ 0 ∷ 0 ∷ 0 ∷ 168 ∷ 208 ∷ 253 ∷ 255 ∷ 255 ∷ 255 ∷ 255 ∷ 255 ∷
    246 ∷ 188 ∷ 1 ∷ 0 ∷ 0 ∷ 0 ∷ 0 ∷ 0 ∷ 224 ∷ 87 ∷ 4 ∷ 0 ∷ 0 ∷ 0 ∷ 0 ∷ 0 ∷ [])
    (drop 348 file_filtered_after)))
    (replicate 32 0)

pub file_paused : run_for_file 2 file_filtered_after ≡ answers 16 0 0 2 file_paused_after
unfolding opened
file_paused = alike (lists counts) (run_for_file 2 file_filtered_after) (answers 16 0 0 2 file_paused_after) tt

-- and to the end
abbrev file_complete_after : List ℕ
file_complete_after =
    assembled
    (2 ∷ 0 ∷ 0 ∷ 0 ∷ 8 ∷ 0 ∷ 0 ∷ 0 ∷ 244 ∷ 1 ∷ 0 ∷ 0 ∷ 50 ∷ 0 ∷ 0 ∷ 0 ∷
    4 ∷ 0 ∷ 0 ∷ 0 ∷ 4 ∷ 0 ∷ 0 ∷ 0 ∷ [])
    places_of_8
    file_made_depths
    (12 ∷ 40 ∷ 0 ∷ 0 ∷ 178 ∷ 246 ∷ 255 ∷ 255 ∷ 35 ∷ 237 ∷ 255 ∷ 255 ∷ 157 ∷ 19 ∷ 0 ∷ 0 ∷
    110 ∷ 25 ∷ 0 ∷ 0 ∷ 72 ∷ 12 ∷ 0 ∷ 0 ∷ 81 ∷ 41 ∷ 0 ∷ 0 ∷ 174 ∷ 234 ∷ 255 ∷ 255 ∷ [])
    (78 ∷ 85 ∷ 0 ∷ 0 ∷ 206 ∷ 34 ∷ 0 ∷ 0 ∷ 228 ∷ 230 ∷ 255 ∷ 255 ∷ 100 ∷ 73 ∷ 0 ∷ 0 ∷
    42 ∷ 43 ∷ 0 ∷ 0 ∷ 94 ∷ 145 ∷ 255 ∷ 255 ∷ 223 ∷ 49 ∷ 0 ∷ 0 ∷ 106 ∷ 138 ∷ 0 ∷ 0 ∷ [])
    (126 ∷ 117 ∷ 0 ∷ 0 ∷ 74 ∷ 38 ∷ 0 ∷ 0 ∷ 201 ∷ 202 ∷ 255 ∷ 255 ∷ 15 ∷ 105 ∷ 0 ∷ 0 ∷
    216 ∷ 64 ∷ 0 ∷ 0 ∷ 185 ∷ 91 ∷ 255 ∷ 255 ∷ 109 ∷ 57 ∷ 0 ∷ 0 ∷ 223 ∷ 207 ∷ 0 ∷ 0 ∷ [])
    (onto (251 ∷ 160 ∷ 206 ∷ 151 ∷ 1 ∷ 0 ∷ 0 ∷ 0 ∷ 112 ∷ 221 ∷ 175 ∷ 218 ∷ 255 ∷ 255 ∷ 255 ∷ 255 ∷
    210 ∷ 53 ∷ 75 ∷ 172 ∷ 0 ∷ 0 ∷ 0 ∷ 0 ∷ 195 ∷ 68 ∷ 157 ∷ 240 ∷ 1 ∷ 0 ∷ 0 ∷ 0 ∷
    65 ∷ 177 ∷ 211 ∷ 7 ∷ 255 ∷ 255 ∷ 255 ∷ 255 ∷ 15 ∷ 85 ∷ 94 ∷ 218 ∷ 254 ∷ 255 ∷ 255 ∷ 255 ∷
    252 ∷ 95 ∷ 120 ∷ 173 ∷ 2 ∷ 0 ∷ 0 ∷ 0 ∷ [])
    (drop 180 file_paused_after))
    (onto (110 ∷ 114 ∷ 2 ∷ 0 ∷ 0 ∷ 0 ∷ 0 ∷ 0 ∷ 175 ∷ 226 ∷ 2 ∷ 0 ∷ 0 ∷ 0 ∷ 0 ∷ 0 ∷
    59 ∷ 110 ∷ 254 ∷ 255 ∷ 255 ∷ 255 ∷ 255 ∷ 255 ∷ 198 ∷ 221 ∷ 253 ∷ 255 ∷ 255 ∷ 255 ∷ 255 ∷ 255 ∷
    37 ∷ 197 ∷ 0 ∷ 0 ∷ 0 ∷ 0 ∷ 0 ∷ 0 ∷ 57 ∷ 237 ∷ 254 ∷ 255 ∷ 255 ∷ 255 ∷ 255 ∷ 255 ∷
    114 ∷ 102 ∷ 1 ∷ 0 ∷ 0 ∷ 0 ∷ 0 ∷ 0 ∷ 4 ∷ 108 ∷ 3 ∷ 0 ∷ 0 ∷ 0 ∷ 0 ∷ 0 ∷ [])
    (drop 348 file_paused_after))
    (replicate 32 0)

pub file_complete : run_for_file 1000 file_paused_after ≡ answers 0 0 0 1 file_complete_after
unfolding opened
file_complete = alike (lists counts) (run_for_file 1000 file_paused_after) (answers 0 0 0 1 file_complete_after) tt

-- a complete channel takes no step (11), and its file stays
pub file_over : step_file file_complete_after (replicate 32 0) ≡ answers 11 0 0 0 file_complete_after
unfolding opened
file_over =
    alike (lists counts)
    (step_file file_complete_after (replicate 32 0))
    (answers 11 0 0 0 file_complete_after) tt

-- nor a filter pass
pub file_filtered_no_more : filter_file file_complete_after ≡ answers 11 0 0 0 file_complete_after
unfolding opened
file_filtered_no_more =
    alike (lists counts)
    (filter_file file_complete_after)
    (answers 11 0 0 0 file_complete_after) tt

-- a run of it is complete at once, with no step accepted
pub file_already_complete : run_for_file 5 file_complete_after ≡ answers 0 0 0 0 file_complete_after
unfolding opened
file_already_complete =
    alike (lists counts)
    (run_for_file 5 file_complete_after)
    (answers 0 0 0 0 file_complete_after) tt

-- a poured amount beyond 1,000,000 is told (37) before a dry cell of the file (4)
abbrev dry_file : List ℕ
dry_file = replaced 84 (0 ∷ 0 ∷ 236 ∷ 255 ∷ []) file_made_after

abbrev file_poured_too_much_poured : List ℕ
file_poured_too_much_poured =
    0 ∷ 0 ∷ 0 ∷ 0 ∷ 0 ∷ 0 ∷ 0 ∷ 0 ∷ 0 ∷ 0 ∷ 0 ∷ 0 ∷ 0 ∷ 0 ∷ 0 ∷ 0 ∷
    0 ∷ 0 ∷ 0 ∷ 0 ∷ 0 ∷ 0 ∷ 0 ∷ 0 ∷ 0 ∷ 0 ∷ 0 ∷ 0 ∷ 65 ∷ 66 ∷ 15 ∷ 0 ∷ []

pub file_poured_too_much : step_file dry_file file_poured_too_much_poured ≡ answers 37 0 8 0 dry_file
unfolding opened
file_poured_too_much =
    alike (lists counts)
    (step_file dry_file file_poured_too_much_poured)
    (answers 37 0 8 0 dry_file) tt

-- that file with nothing wrong poured: the dry cell is told
abbrev file_dry_poured : List ℕ
file_dry_poured =
    0 ∷ 0 ∷ 0 ∷ 0 ∷ 0 ∷ 0 ∷ 0 ∷ 0 ∷ 0 ∷ 0 ∷ 0 ∷ 0 ∷ 0 ∷ 0 ∷ 0 ∷ 0 ∷
    0 ∷ 0 ∷ 0 ∷ 0 ∷ 0 ∷ 0 ∷ 0 ∷ 0 ∷ 0 ∷ 0 ∷ 0 ∷ 0 ∷ 64 ∷ 66 ∷ 15 ∷ 0 ∷ []

pub file_dry : step_file dry_file file_dry_poured ≡ answers 4 0 1 0 dry_file
unfolding opened
file_dry = alike (lists counts) (step_file dry_file file_dry_poured) (answers 4 0 1 0 dry_file) tt

-- a run of that file is refused by the same number, and has accepted no step
pub file_dry_run : run_for_file 5 dry_file ≡ answers 4 0 1 0 dry_file
unfolding opened
file_dry_run = alike (lists counts) (run_for_file 5 dry_file) (answers 4 0 1 0 dry_file) tt

-- a poured row of too few entries (1) is told before rows that do not stand where they must (14)
abbrev shifted_file : List ℕ
shifted_file = replaced 24 (53 ∷ []) file_made_after

pub file_poured_short : step_file shifted_file (replicate 28 0) ≡ answers 1 0 0 0 shifted_file
unfolding opened
file_poured_short = alike (lists counts) (step_file shifted_file (replicate 28 0)) (answers 1 0 0 0 shifted_file) tt

-- the file that was made is one that every call takes
pub file_checked : check_file file_made_after ≡ says 0 0 0 0
unfolding opened
file_checked = refl

-- a file whose depths are said to start at byte 53
pub file_shifted : check_file shifted_file ≡ says 14 0 0 0
unfolding opened
file_shifted = refl

-- the running program writes the file of the complete channel
pub file_run : run_file file_paused_after ≡ file_complete_after
unfolding opened
file_run = (lists counts).sound (run_file file_paused_after) file_complete_after tt

-- it writes nothing for a file that is refused, here of edition 1
abbrev earlier_file : List ℕ
earlier_file = replaced 0 (1 ∷ []) file_made_after

pub file_not_run : run_file earlier_file ≡ []
unfolding opened
file_not_run = (lists counts).sound (run_file earlier_file) [] tt

-- such a file is refused with 13
pub file_of_edition_one : check_file earlier_file ≡ says 13 0 0 0
unfolding opened
file_of_edition_one = refl

-- those rows and one of damping, in the last cells
abbrev file_damped_dampings : List ℕ
file_damped_dampings =
    0 ∷ 0 ∷ 0 ∷ 0 ∷ 0 ∷ 0 ∷ 0 ∷ 0 ∷ 0 ∷ 0 ∷ 0 ∷ 0 ∷ 0 ∷ 0 ∷ 0 ∷ 0 ∷
    244 ∷ 1 ∷ 0 ∷ 0 ∷ 220 ∷ 5 ∷ 0 ∷ 0 ∷ 148 ∷ 17 ∷ 0 ∷ 0 ∷ 28 ∷ 37 ∷ 0 ∷ 0 ∷ []

abbrev file_damped_after : List ℕ
file_damped_after =
    assembled
    (2 ∷ 0 ∷ 0 ∷ 0 ∷ 8 ∷ 0 ∷ 0 ∷ 0 ∷ 244 ∷ 1 ∷ 0 ∷ 0 ∷ 50 ∷ 0 ∷ 0 ∷ 0 ∷
    0 ∷ 0 ∷ 0 ∷ 0 ∷ 4 ∷ 0 ∷ 0 ∷ 0 ∷ [])
    places_of_8
    file_made_depths
    file_made_heights
    file_made_velocities
    (part 148 32 file_made_after)
    (part 180 168 file_made_after)
    (thrice (18 ∷ 75 ∷ 4 ∷ 0 ∷ 0 ∷ 0 ∷ 0 ∷ 0 ∷ 143 ∷ 126 ∷ 1 ∷ 0 ∷ 0 ∷ 0 ∷ 0 ∷ 0 ∷
    126 ∷ 83 ∷ 254 ∷ 255 ∷ 255 ∷ 255 ∷ 255 ∷ 255 ∷ 231 ∷ 171 ∷ 254 ∷ 255 ∷ 255 ∷ 255 ∷ 255 ∷ 255 ∷
    106 ∷ 247 ∷ 1 ∷ 0 ∷ 0 ∷ 0 ∷ 0 ∷ 0 ∷ 29 ∷ 176 ∷ 252 ∷ 255 ∷ 255 ∷ 255 ∷ 255 ∷ 255 ∷
    194 ∷ 176 ∷ 1 ∷ 0 ∷ 0 ∷ 0 ∷ 0 ∷ 0 ∷ 20 ∷ 42 ∷ 7 ∷ 0 ∷ 0 ∷ 0 ∷ 0 ∷ 0 ∷ []))
    file_damped_dampings

pub file_damped :
    make_file 8 500 50 4 file_made_depths file_made_heights file_made_velocities file_damped_dampings (replicate 572 0)
    ≡ answers 0 0 0 0 file_damped_after
unfolding opened
file_damped =
    alike (lists counts)
    (make_file 8 500 50 4 file_made_depths file_made_heights file_made_velocities file_damped_dampings (replicate 572 0))
    (answers 0 0 0 0 file_damped_after) tt

-- one step of a run of that file
abbrev file_damped_run_after : List ℕ
file_damped_run_after =
    assembled
    (2 ∷ 0 ∷ 0 ∷ 0 ∷ 8 ∷ 0 ∷ 0 ∷ 0 ∷ 244 ∷ 1 ∷ 0 ∷ 0 ∷ 50 ∷ 0 ∷ 0 ∷ 0 ∷
    1 ∷ 0 ∷ 0 ∷ 0 ∷ 4 ∷ 0 ∷ 0 ∷ 0 ∷ [])
    places_of_8
    file_made_depths
    (33 ∷ 48 ∷ 0 ∷ 0 ∷ 27 ∷ 225 ∷ 255 ∷ 255 ∷ 182 ∷ 5 ∷ 0 ∷ 0 ∷ 244 ∷ 0 ∷ 0 ∷ 0 ∷
    248 ∷ 42 ∷ 0 ∷ 0 ∷ 80 ∷ 229 ∷ 255 ∷ 255 ∷ 254 ∷ 95 ∷ 0 ∷ 0 ∷ 87 ∷ 209 ∷ 255 ∷ 255 ∷ [])
    (235 ∷ 45 ∷ 0 ∷ 0 ∷ 90 ∷ 188 ∷ 255 ∷ 255 ∷ 219 ∷ 18 ∷ 0 ∷ 0 ∷ 205 ∷ 142 ∷ 0 ∷ 0 ∷
    73 ∷ 254 ∷ 255 ∷ 255 ∷ 106 ∷ 230 ∷ 255 ∷ 255 ∷ 159 ∷ 204 ∷ 255 ∷ 255 ∷ 181 ∷ 79 ∷ 0 ∷ 0 ∷ [])
    (149 ∷ 78 ∷ 0 ∷ 0 ∷ 225 ∷ 151 ∷ 255 ∷ 255 ∷ 79 ∷ 6 ∷ 0 ∷ 0 ∷ 49 ∷ 213 ∷ 0 ∷ 0 ∷
    100 ∷ 223 ∷ 255 ∷ 255 ∷ 72 ∷ 229 ∷ 255 ∷ 255 ∷ 38 ∷ 182 ∷ 255 ∷ 255 ∷ 70 ∷ 131 ∷ 0 ∷ 0 ∷ [])
    (onto (95 ∷ 11 ∷ 72 ∷ 188 ∷ 255 ∷ 255 ∷ 255 ∷ 255 ∷ 78 ∷ 154 ∷ 57 ∷ 245 ∷ 254 ∷ 255 ∷ 255 ∷ 255 ∷
    175 ∷ 205 ∷ 66 ∷ 112 ∷ 2 ∷ 0 ∷ 0 ∷ 0 ∷ 162 ∷ 60 ∷ 208 ∷ 19 ∷ 2 ∷ 0 ∷ 0 ∷ 0 ∷
    185 ∷ 12 ∷ 46 ∷ 111 ∷ 255 ∷ 255 ∷ 255 ∷ 255 ∷ 8 ∷ 231 ∷ 13 ∷ 255 ∷ 254 ∷ 255 ∷ 255 ∷ 255 ∷
    221 ∷ 105 ∷ 181 ∷ 149 ∷ 0 ∷ 0 ∷ 0 ∷ 0 ∷ [])
    (drop 180 file_damped_after))
    (onto (185 ∷ 69 ∷ 4 ∷ 0 ∷ 0 ∷ 0 ∷ 0 ∷ 0 ∷ 134 ∷ 220 ∷ 1 ∷ 0 ∷ 0 ∷ 0 ∷ 0 ∷ 0 ∷
    154 ∷ 85 ∷ 254 ∷ 255 ∷ 255 ∷ 255 ∷ 255 ∷ 255 ∷ 206 ∷ 32 ∷ 254 ∷ 255 ∷ 255 ∷ 255 ∷ 255 ∷ 255 ∷
    234 ∷ 253 ∷ 1 ∷ 0 ∷ 0 ∷ 0 ∷ 0 ∷ 0 ∷ 159 ∷ 34 ∷ 253 ∷ 255 ∷ 255 ∷ 255 ∷ 255 ∷ 255 ∷
    235 ∷ 91 ∷ 1 ∷ 0 ∷ 0 ∷ 0 ∷ 0 ∷ 0 ∷ 74 ∷ 30 ∷ 5 ∷ 0 ∷ 0 ∷ 0 ∷ 0 ∷ 0 ∷ [])
    (drop 348 file_damped_after))
    file_damped_dampings

pub file_damped_run : run_for_file 1 file_damped_after ≡ answers 16 0 0 1 file_damped_run_after
unfolding opened
file_damped_run = alike (lists counts) (run_for_file 1 file_damped_after) (answers 16 0 0 1 file_damped_run_after) tt

-- a file of which three steps are wanted
abbrev file_of_three_depths : List ℕ
file_of_three_depths =
    44 ∷ 1 ∷ 0 ∷ 0 ∷ 44 ∷ 1 ∷ 0 ∷ 0 ∷ 44 ∷ 1 ∷ 0 ∷ 0 ∷ 44 ∷ 1 ∷ 0 ∷ 0 ∷
    44 ∷ 1 ∷ 0 ∷ 0 ∷ 44 ∷ 1 ∷ 0 ∷ 0 ∷ 44 ∷ 1 ∷ 0 ∷ 0 ∷ 44 ∷ 1 ∷ 0 ∷ 0 ∷ []

abbrev file_of_three_heights : List ℕ
file_of_three_heights =
    156 ∷ 255 ∷ 255 ∷ 255 ∷ 180 ∷ 20 ∷ 0 ∷ 0 ∷ 248 ∷ 17 ∷ 0 ∷ 0 ∷ 236 ∷ 19 ∷ 0 ∷ 0 ∷
    216 ∷ 245 ∷ 255 ∷ 255 ∷ 164 ∷ 237 ∷ 255 ∷ 255 ∷ 72 ∷ 244 ∷ 255 ∷ 255 ∷ 108 ∷ 7 ∷ 0 ∷ 0 ∷ []

abbrev file_of_three_after : List ℕ
file_of_three_after =
    assembled
    (2 ∷ 0 ∷ 0 ∷ 0 ∷ 8 ∷ 0 ∷ 0 ∷ 0 ∷ 232 ∷ 3 ∷ 0 ∷ 0 ∷ 25 ∷ 0 ∷ 0 ∷ 0 ∷
    0 ∷ 0 ∷ 0 ∷ 0 ∷ 3 ∷ 0 ∷ 0 ∷ 0 ∷ [])
    places_of_8
    file_of_three_depths
    file_of_three_heights
    (replicate 32 0)
    (replicate 32 0)
    (replicate 168 0)
    (thrice (208 ∷ 115 ∷ 255 ∷ 255 ∷ 255 ∷ 255 ∷ 255 ∷ 255 ∷ 137 ∷ 152 ∷ 255 ∷ 255 ∷ 255 ∷ 255 ∷ 255 ∷ 255 ∷
    32 ∷ 253 ∷ 255 ∷ 255 ∷ 255 ∷ 255 ∷ 255 ∷ 255 ∷ 1 ∷ 152 ∷ 0 ∷ 0 ∷ 0 ∷ 0 ∷ 0 ∷ 0 ∷
    23 ∷ 226 ∷ 0 ∷ 0 ∷ 0 ∷ 0 ∷ 0 ∷ 0 ∷ 0 ∷ 0 ∷ 0 ∷ 0 ∷ 0 ∷ 0 ∷ 0 ∷ 0 ∷
    195 ∷ 101 ∷ 255 ∷ 255 ∷ 255 ∷ 255 ∷ 255 ∷ 255 ∷ 64 ∷ 136 ∷ 255 ∷ 255 ∷ 255 ∷ 255 ∷ 255 ∷ 255 ∷ []))
    (replicate 32 0)

pub file_of_three :
    make_file 8 1000 25 3 file_of_three_depths file_of_three_heights (replicate 32 0) (replicate 32 0) (replicate 572 0)
    ≡ answers 0 0 0 0 file_of_three_after
unfolding opened
file_of_three =
    alike (lists counts)
    (make_file 8 1000 25 3 file_of_three_depths file_of_three_heights (replicate 32 0) (replicate 32 0) (replicate 572 0))
    (answers 0 0 0 0 file_of_three_after) tt

-- its first step
abbrev file_of_three_first_after : List ℕ
file_of_three_first_after =
    assembled
    (2 ∷ 0 ∷ 0 ∷ 0 ∷ 8 ∷ 0 ∷ 0 ∷ 0 ∷ 232 ∷ 3 ∷ 0 ∷ 0 ∷ 25 ∷ 0 ∷ 0 ∷ 0 ∷
    1 ∷ 0 ∷ 0 ∷ 0 ∷ 3 ∷ 0 ∷ 0 ∷ 0 ∷ [])
    places_of_8
    file_of_three_depths
    (160 ∷ 255 ∷ 255 ∷ 255 ∷ 178 ∷ 20 ∷ 0 ∷ 0 ∷ 244 ∷ 17 ∷ 0 ∷ 0 ∷ 233 ∷ 19 ∷ 0 ∷ 0 ∷
    218 ∷ 245 ∷ 255 ∷ 255 ∷ 169 ∷ 237 ∷ 255 ∷ 255 ∷ 74 ∷ 244 ∷ 255 ∷ 255 ∷ 104 ∷ 7 ∷ 0 ∷ 0 ∷ [])
    (192 ∷ 252 ∷ 255 ∷ 255 ∷ 122 ∷ 253 ∷ 255 ∷ 255 ∷ 249 ∷ 255 ∷ 255 ∷ 255 ∷ 186 ∷ 3 ∷ 0 ∷ 0 ∷
    104 ∷ 5 ∷ 0 ∷ 0 ∷ 14 ∷ 0 ∷ 0 ∷ 0 ∷ 79 ∷ 252 ∷ 255 ∷ 255 ∷ 45 ∷ 253 ∷ 255 ∷ 255 ∷ [])
    (127 ∷ 252 ∷ 255 ∷ 255 ∷ 106 ∷ 253 ∷ 255 ∷ 255 ∷ 238 ∷ 255 ∷ 255 ∷ 255 ∷ 205 ∷ 3 ∷ 0 ∷ 0 ∷
    167 ∷ 5 ∷ 0 ∷ 0 ∷ 0 ∷ 0 ∷ 0 ∷ 0 ∷ 37 ∷ 252 ∷ 255 ∷ 255 ∷ 2 ∷ 253 ∷ 255 ∷ 255 ∷ [])
    (onto (113 ∷ 25 ∷ 34 ∷ 239 ∷ 255 ∷ 255 ∷ 255 ∷ 255 ∷ 167 ∷ 173 ∷ 211 ∷ 248 ∷ 255 ∷ 255 ∷ 255 ∷ 255 ∷
    250 ∷ 152 ∷ 253 ∷ 8 ∷ 0 ∷ 0 ∷ 0 ∷ 0 ∷ 96 ∷ 21 ∷ 135 ∷ 24 ∷ 0 ∷ 0 ∷ 0 ∷ 0 ∷
    69 ∷ 121 ∷ 119 ∷ 14 ∷ 0 ∷ 0 ∷ 0 ∷ 0 ∷ 4 ∷ 43 ∷ 90 ∷ 245 ∷ 255 ∷ 255 ∷ 255 ∷ 255 ∷
    235 ∷ 22 ∷ 112 ∷ 237 ∷ 255 ∷ 255 ∷ 255 ∷ 255 ∷ [])
    (drop 180 file_of_three_after))
    (onto (245 ∷ 115 ∷ 255 ∷ 255 ∷ 255 ∷ 255 ∷ 255 ∷ 255 ∷ 184 ∷ 152 ∷ 255 ∷ 255 ∷ 255 ∷ 255 ∷ 255 ∷ 255 ∷
    37 ∷ 253 ∷ 255 ∷ 255 ∷ 255 ∷ 255 ∷ 255 ∷ 255 ∷ 223 ∷ 151 ∷ 0 ∷ 0 ∷ 0 ∷ 0 ∷ 0 ∷ 0 ∷
    232 ∷ 225 ∷ 0 ∷ 0 ∷ 0 ∷ 0 ∷ 0 ∷ 0 ∷ 255 ∷ 255 ∷ 255 ∷ 255 ∷ 255 ∷ 255 ∷ 255 ∷ 255 ∷
    248 ∷ 101 ∷ 255 ∷ 255 ∷ 255 ∷ 255 ∷ 255 ∷ 255 ∷ 101 ∷ 136 ∷ 255 ∷ 255 ∷ 255 ∷ 255 ∷ 255 ∷ 255 ∷ [])
    (drop 348 file_of_three_after))
    (replicate 32 0)

pub file_of_three_first : step_file file_of_three_after (replicate 32 0) ≡ answers 0 0 0 1 file_of_three_first_after
unfolding opened
file_of_three_first =
    alike (lists counts)
    (step_file file_of_three_after (replicate 32 0))
    (answers 0 0 0 1 file_of_three_first_after) tt

-- its second, over the bytes that the first left
abbrev file_of_three_second_after : List ℕ
file_of_three_second_after =
    assembled
    (2 ∷ 0 ∷ 0 ∷ 0 ∷ 8 ∷ 0 ∷ 0 ∷ 0 ∷ 232 ∷ 3 ∷ 0 ∷ 0 ∷ 25 ∷ 0 ∷ 0 ∷ 0 ∷
    2 ∷ 0 ∷ 0 ∷ 0 ∷ 3 ∷ 0 ∷ 0 ∷ 0 ∷ [])
    places_of_8
    file_of_three_depths
    (171 ∷ 255 ∷ 255 ∷ 255 ∷ 172 ∷ 20 ∷ 0 ∷ 0 ∷ 233 ∷ 17 ∷ 0 ∷ 0 ∷ 224 ∷ 19 ∷ 0 ∷ 0 ∷
    224 ∷ 245 ∷ 255 ∷ 255 ∷ 185 ∷ 237 ∷ 255 ∷ 255 ∷ 79 ∷ 244 ∷ 255 ∷ 255 ∷ 92 ∷ 7 ∷ 0 ∷ 0 ∷ [])
    (130 ∷ 249 ∷ 255 ∷ 255 ∷ 246 ∷ 250 ∷ 255 ∷ 255 ∷ 243 ∷ 255 ∷ 255 ∷ 255 ∷ 115 ∷ 7 ∷ 0 ∷ 0 ∷
    205 ∷ 10 ∷ 0 ∷ 0 ∷ 29 ∷ 0 ∷ 0 ∷ 0 ∷ 160 ∷ 248 ∷ 255 ∷ 255 ∷ 92 ∷ 250 ∷ 255 ∷ 255 ∷ [])
    (0 ∷ 249 ∷ 255 ∷ 255 ∷ 214 ∷ 250 ∷ 255 ∷ 255 ∷ 220 ∷ 255 ∷ 255 ∷ 255 ∷ 152 ∷ 7 ∷ 0 ∷ 0 ∷
    75 ∷ 11 ∷ 0 ∷ 0 ∷ 0 ∷ 0 ∷ 0 ∷ 0 ∷ 77 ∷ 248 ∷ 255 ∷ 255 ∷ 6 ∷ 250 ∷ 255 ∷ 255 ∷ [])
    (onto (253 ∷ 73 ∷ 79 ∷ 222 ∷ 255 ∷ 255 ∷ 255 ∷ 255 ∷ 64 ∷ 68 ∷ 175 ∷ 241 ∷ 255 ∷ 255 ∷ 255 ∷ 255 ∷
    197 ∷ 96 ∷ 251 ∷ 17 ∷ 0 ∷ 0 ∷ 0 ∷ 0 ∷ 205 ∷ 171 ∷ 2 ∷ 49 ∷ 0 ∷ 0 ∷ 0 ∷ 0 ∷
    234 ∷ 106 ∷ 233 ∷ 28 ∷ 0 ∷ 0 ∷ 0 ∷ 0 ∷ 205 ∷ 138 ∷ 188 ∷ 234 ∷ 255 ∷ 255 ∷ 255 ∷ 255 ∷
    4 ∷ 98 ∷ 235 ∷ 218 ∷ 255 ∷ 255 ∷ 255 ∷ 255 ∷ [])
    (drop 180 file_of_three_first_after))
    (onto (93 ∷ 116 ∷ 255 ∷ 255 ∷ 255 ∷ 255 ∷ 255 ∷ 255 ∷ 57 ∷ 153 ∷ 255 ∷ 255 ∷ 255 ∷ 255 ∷ 255 ∷ 255 ∷
    53 ∷ 253 ∷ 255 ∷ 255 ∷ 255 ∷ 255 ∷ 255 ∷ 255 ∷ 127 ∷ 151 ∷ 0 ∷ 0 ∷ 0 ∷ 0 ∷ 0 ∷ 0 ∷
    84 ∷ 225 ∷ 0 ∷ 0 ∷ 0 ∷ 0 ∷ 0 ∷ 0 ∷ 3 ∷ 0 ∷ 0 ∷ 0 ∷ 0 ∷ 0 ∷ 0 ∷ 0 ∷
    159 ∷ 102 ∷ 255 ∷ 255 ∷ 255 ∷ 255 ∷ 255 ∷ 255 ∷ 206 ∷ 136 ∷ 255 ∷ 255 ∷ 255 ∷ 255 ∷ 255 ∷ 255 ∷ [])
    (drop 348 file_of_three_first_after))
    (replicate 32 0)

pub file_of_three_second :
    step_file file_of_three_first_after (replicate 32 0)
    ≡ answers 0 0 0 1 file_of_three_second_after
unfolding opened
file_of_three_second =
    alike (lists counts)
    (step_file file_of_three_first_after (replicate 32 0))
    (answers 0 0 0 1 file_of_three_second_after) tt

-- and its third
abbrev file_of_three_third_after : List ℕ
file_of_three_third_after =
    assembled
    (2 ∷ 0 ∷ 0 ∷ 0 ∷ 8 ∷ 0 ∷ 0 ∷ 0 ∷ 232 ∷ 3 ∷ 0 ∷ 0 ∷ 25 ∷ 0 ∷ 0 ∷ 0 ∷
    3 ∷ 0 ∷ 0 ∷ 0 ∷ 3 ∷ 0 ∷ 0 ∷ 0 ∷ [])
    places_of_8
    file_of_three_depths
    (189 ∷ 255 ∷ 255 ∷ 255 ∷ 161 ∷ 20 ∷ 0 ∷ 0 ∷ 217 ∷ 17 ∷ 0 ∷ 0 ∷ 207 ∷ 19 ∷ 0 ∷ 0 ∷
    235 ∷ 245 ∷ 255 ∷ 255 ∷ 211 ∷ 237 ∷ 255 ∷ 255 ∷ 87 ∷ 244 ∷ 255 ∷ 255 ∷ 73 ∷ 7 ∷ 0 ∷ 0 ∷ [])
    (70 ∷ 246 ∷ 255 ∷ 255 ∷ 118 ∷ 248 ∷ 255 ∷ 255 ∷ 236 ∷ 255 ∷ 255 ∷ 255 ∷ 40 ∷ 11 ∷ 0 ∷ 0 ∷
    45 ∷ 16 ∷ 0 ∷ 0 ∷ 43 ∷ 0 ∷ 0 ∷ 0 ∷ 247 ∷ 244 ∷ 255 ∷ 255 ∷ 142 ∷ 247 ∷ 255 ∷ 255 ∷ [])
    (132 ∷ 245 ∷ 255 ∷ 255 ∷ 71 ∷ 248 ∷ 255 ∷ 255 ∷ 202 ∷ 255 ∷ 255 ∷ 255 ∷ 96 ∷ 11 ∷ 0 ∷ 0 ∷
    234 ∷ 16 ∷ 0 ∷ 0 ∷ 0 ∷ 0 ∷ 0 ∷ 0 ∷ 123 ∷ 244 ∷ 255 ∷ 255 ∷ 13 ∷ 247 ∷ 255 ∷ 255 ∷ [])
    (onto (213 ∷ 187 ∷ 141 ∷ 205 ∷ 255 ∷ 255 ∷ 255 ∷ 255 ∷ 19 ∷ 29 ∷ 148 ∷ 234 ∷ 255 ∷ 255 ∷ 255 ∷ 255 ∷
    20 ∷ 116 ∷ 235 ∷ 26 ∷ 0 ∷ 0 ∷ 0 ∷ 0 ∷ 212 ∷ 208 ∷ 102 ∷ 73 ∷ 0 ∷ 0 ∷ 0 ∷ 0 ∷
    44 ∷ 26 ∷ 75 ∷ 43 ∷ 0 ∷ 0 ∷ 0 ∷ 0 ∷ 27 ∷ 187 ∷ 44 ∷ 224 ∷ 255 ∷ 255 ∷ 255 ∷ 255 ∷
    149 ∷ 114 ∷ 128 ∷ 200 ∷ 255 ∷ 255 ∷ 255 ∷ 255 ∷ [])
    (drop 180 file_of_three_second_after))
    (onto (19 ∷ 117 ∷ 255 ∷ 255 ∷ 255 ∷ 255 ∷ 255 ∷ 255 ∷ 252 ∷ 153 ∷ 255 ∷ 255 ∷ 255 ∷ 255 ∷ 255 ∷ 255 ∷
    86 ∷ 253 ∷ 255 ∷ 255 ∷ 255 ∷ 255 ∷ 255 ∷ 255 ∷ 233 ∷ 150 ∷ 0 ∷ 0 ∷ 0 ∷ 0 ∷ 0 ∷ 0 ∷
    82 ∷ 224 ∷ 0 ∷ 0 ∷ 0 ∷ 0 ∷ 0 ∷ 0 ∷ 21 ∷ 0 ∷ 0 ∷ 0 ∷ 0 ∷ 0 ∷ 0 ∷ 0 ∷
    171 ∷ 103 ∷ 255 ∷ 255 ∷ 255 ∷ 255 ∷ 255 ∷ 255 ∷ 115 ∷ 137 ∷ 255 ∷ 255 ∷ 255 ∷ 255 ∷ 255 ∷ 255 ∷ [])
    (drop 348 file_of_three_second_after))
    (replicate 32 0)

pub file_of_three_third :
    step_file file_of_three_second_after (replicate 32 0)
    ≡ answers 0 0 0 1 file_of_three_third_after
unfolding opened
file_of_three_third =
    alike (lists counts)
    (step_file file_of_three_second_after (replicate 32 0))
    (answers 0 0 0 1 file_of_three_third_after) tt

-- a run of three steps, from the file that was made, leaves the very bytes that they left one by one
pub file_of_three_run : run_for_file 3 file_of_three_after ≡ answers 0 0 0 3 file_of_three_third_after
unfolding opened
file_of_three_run =
    alike (lists counts)
    (run_for_file 3 file_of_three_after)
    (answers 0 0 0 3 file_of_three_third_after) tt

-- the reader, lent rows of the right lengths
abbrev read_into_rows_before : Channel
read_into_rows_before =
    channel 0 0 0 0 0
    (replicate 8 (pos 0))
    (replicate 8 (pos 0))
    (replicate 8 (pos 0))
    (replicate 8 (pos 0))
    (replicate 21 (pos 0))
    (replicate 24 (pos 0))
    (replicate 8 (pos 0))

pub read_into_rows : read_call read_into_rows_before write_uneven_file ≡ answers 0 0 0 0 run_paused_before
unfolding opened
read_into_rows =
    alike channels
    (read_call read_into_rows_before write_uneven_file)
    (answers 0 0 0 0 run_paused_before) tt

-- lent rows for 9 cells and a file of 8, it changes nothing
abbrev read_into_longer_rows_before : Channel
read_into_longer_rows_before =
    channel 0 0 0 0 0
    (replicate 9 (pos 0))
    (replicate 9 (pos 0))
    (replicate 9 (pos 0))
    (replicate 9 (pos 0))
    (replicate 24 (pos 0))
    (replicate 27 (pos 0))
    (replicate 9 (pos 0))

pub read_into_longer_rows :
    read_call read_into_longer_rows_before write_uneven_file
    ≡ answers 1 0 0 0 read_into_longer_rows_before
unfolding opened
read_into_longer_rows =
    alike channels
    (read_call read_into_longer_rows_before write_uneven_file)
    (answers 1 0 0 0 read_into_longer_rows_before) tt

-- a file whose time step is too long for its depths (26), its cells being said to be 10 mm wide, changes nothing
abbrev narrow_file : List ℕ
narrow_file = replaced 8 (10 ∷ 0 ∷ []) write_uneven_file

pub read_too_long : read_call read_into_rows_before narrow_file ≡ answers 26 0 0 0 read_into_rows_before
unfolding opened
read_too_long =
    alike channels
    (read_call read_into_rows_before narrow_file)
    (answers 26 0 0 0 read_into_rows_before) tt

-- nor does a run of it, which has accepted no step
pub file_too_long_run : run_for_file 5 narrow_file ≡ answers 26 0 0 0 narrow_file
unfolding opened
file_too_long_run = alike (lists counts) (run_for_file 5 narrow_file) (answers 26 0 0 0 narrow_file) tt
