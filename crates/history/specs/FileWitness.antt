-- That histories of any calls over bytes exist: what such a history is.
use Rattle.std.specs.Prelude.{ℕ, ◌≡◌, List}
use Rattle.rule.specs.declared.Answer.{Answer}
use Rattle.history.specs.FileRule.{FileCall, file_after}
use Rattle.history.specs.FileHistory.{FileLink, FileHistory, calls}
use Rattle.history.specs.FileAnyCalls.{AnyFileCall, file_answers_to, asked_by, asked, answers}

-- one call, from s to t
pub record Linked (s t : List ℕ) (call : AnyFileCall) : Type 0 where
  pub link : FileLink s t
  pub asks : asked_by link ≡ call

-- a history from s to t of these calls, the rule's for them, which answer so
pub record FileMade (s t : List ℕ) (asking : List AnyFileCall) (ruled : List FileCall) (given : List Answer) : Type 0 where
  pub history : FileHistory s t
  pub asks : asked history ≡ asking
  pub calls : calls history ≡ ruled
  pub answers : answers history ≡ given

pub record FileCalled (s : List ℕ) (asking : List FileCall) : Type 0 where
  pub history : FileHistory s (file_after s asking)
  pub calls : calls history ≡ asking
  pub answers : answers history ≡ file_answers_to s asking
