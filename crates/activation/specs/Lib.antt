pub mod ActivateSession
