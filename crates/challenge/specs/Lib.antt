pub mod GetSessionChallenge
